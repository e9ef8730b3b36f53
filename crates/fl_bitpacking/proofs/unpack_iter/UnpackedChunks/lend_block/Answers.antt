use Rattle.std.proofs.Common.{◌≡◌, Some, ◌+◌, ◌-◌, ◌*◌, map, take, drop, rules, refl, ap, sym, arith}
use Rattle.fl_bitpacking.specs.Blocks.{global_blocks, item_of_blocks}
use Rattle.fl_bitpacking.specs.WholeBlocks.{block_items_at}
use Rattle.fl_bitpacking.specs.Readers.{Reader}
use Rattle.fl_bitpacking.proofs.Slices.{integers_between}
use Rattle.fl_bitpacking.proofs.unpack_iter.UnpackedChunks.lend_block.Goals as goal

pub returns : goal.returns
returns g c =
    let ptype = g.T.NativePType.PTYPE in
    let value = g.T.Number.value in
    let width = c.self.inside.bit_width in
    let packed = c.self.inside.packed.now in
    let j = c.args.j in
    let from = c.args.span.from in
    let to = c.args.span.to in
    let whole = c.unpack_at.ensures.whole in
    let order = c.requires.order in
    let within = c.requires.within in
    let width_is : width ≡ c.args.self.now.bit_width = ap (λ (r : Reader). r.bit_width) c.self.view_is in
    let packed_is : packed ≡ c.args.self.now.packed = ap (λ (r : Reader). r.packed) c.self.view_is in
    let read : map value (take (to - from) (drop from c.unpack_at.new.items)) ≡ block_items_at ptype width packed (1024 * j + from) (to - from) =
    integers_between value (λ k. item_of_blocks ptype (global_blocks width) packed (1024 * j + from + k)) c.unpack_at.new.items from to order (omega arith)
    (λ k h. (let place : 1024 * j + from + k ≡ 1024 * j + (from + k) = omega arith in rw place (c.unpack_at.ensures.items (from + k) (omega arith)))) in (
      (refl, λ w. search rules),
      record {
        after = tt;
        items = rw (sym width_is, sym packed_is) (ap (λ zs. Some zs) read);
      },
    )
