use Rattle.std.proofs.Common.{◌≡◌, ◌*◌, ◌-ℤ◌, arith, take}
use Rattle.std.proofs.lemmas.List.{take_all}
use Rattle.fl_types.specs.Integers.{wrap}
use Rattle.fl_codec.proofs.WithoutNulls.{chunks_next}
use Rattle.fl_codec.proofs.for_.without_nulls.differences.Goals as goal

pub loop-k-preserved : goal.loop-k-preserved
loop-k-preserved g c =
    chunks_next g.T.Number.value (λ z. wrap g.T.NativePType.PTYPE (z -ℤ g.T.Number.value c.args.reference)) c.args.items.now c.chunk_of.result.now c.loop-k.slots.items c.push_differences.new.slots.items c.loop-k.k
    c.chunk_of.ensures.items c.loop-k.invariant c.in_ok-push_differences.ensures

pub returns : goal.returns
returns g c =
    let all : take (1024 * c.loop-k.k) c.args.items.now ≡ c.args.items.now = take_all (1024 * c.loop-k.k) c.args.items.now (omega arith) in
    rw all at c.loop-k.invariant
