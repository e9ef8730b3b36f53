use Rattle.std.proofs.Common.{◌≡◌, length, map, arith}
use Rattle.std.proofs.lemmas.Result.{on_ok_weaker}
use Rattle.fl_patches.proofs.Gathers.{blocks_pushed}
use Rattle.fl_types.proofs.Refused.{no_value}
use Rattle.fl_patches.proofs.gathering.BlockExceptions.push_block.Goals as goal

pub returns : goal.returns
returns g c = on_ok_weaker c.push_part.result
    (λ step width_at same so.
    blocks_pushed g.T.NativePType.PTYPE g.T.Number.value c.args.validity.now c.args.items.now width_at c.args.width c.args.block c.chunk_bounds-start.result.0 c.chunk_bounds-start.result.1 c.len.result c.args.self.now.found.places.items c.push_part.new.self.places.items (map g.T.Number.value c.args.self.now.found.values.items) (map g.T.Number.value c.push_part.new.self.values.items) c.args.self.now.offsets.items c.push.new.self.items
    c.requires.covers c.requires.begun c.chunk_bounds-start.ensures.start c.chunk_bounds-start.ensures.end (let had : c.len.result ≡ length c.args.self.now.found.places.items = omega (arith, c.len.ensures, c.args.self.now.found.places.ok) in had) c.in_ok-push.ensures.items same step so)
    c.push_part.ensures

pub returns-in_err-push : goal.returns-in_err-push
returns-in_err-push g c = no_value _ _ c.from_residual.result c.from_residual.ensures.1
