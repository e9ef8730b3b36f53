use Rattle.std.proofs.Common.{◌≡◌, ℕ, ◌+◌, ◌<◌, ◌∙◌, length, map, get_or, unwrap_or, ap, sym, arith, length-set}
use Rattle.fl_column.specs.Numbers.{numbers_by}
use Rattle.fl_bitpacking.specs.Blocks.{value_at}
use Rattle.fl_bitpacking.specs.Placed.{value_beside}
use Rattle.fl_bitpacking.proofs.Natives.{value_at_read, value_filled}
use Rattle.fl_bitpacking.proofs.TakenLaws.{rest_stays}
use Rattle.fl_bitpacking.proofs.compute.take.patch_values.patch_values.Goals as goal

pub moved_to-range-requires : goal.moved_to-range-requires
moved_to-range-requires g c = c.loop-k.invariant.ranged

pub patched_or-item-requires-clause-range : goal.patched_or-item-requires-clause-range
patched_or-item-requires-clause-range g c =
    let position = get_or c.args.positions.now c.loop-k.k 0 in
    rw (c.offset-offset.ensures, ← c.requires.indices) (c.moved_to-range.ensures.range position (sym c.moved_to-range.ensures.chunk))

pub loop-k-preserved : goal.loop-k-preserved
loop-k-preserved g c =
    let value = g.T.Number.value in
    let items = c.loop-k.items in
    let k = c.loop-k.k in
    let whole = c.loop-k.invariant.whole in
    let long = c.requires.long in
    let more = c.loop-k-test.true in
    let beside = λ (i : ℕ). value_beside (numbers_by g.I.Number.value c.args.indices.now) (map value c.args.values.now) (c.args.patches.now.offset + get_or c.args.positions.now i 0) in
    let inside : k < length items = omega arith in
    let stored : value c.index-items-k.result ≡ value_at value c.args.items.now k = sym (value_at_read value items k c.index-items-k.result inside c.index-items-k.is) ∙ c.loop-k.invariant.rest k (omega arith) in
    let is : value c.patched_or-item.result ≡ unwrap_or (beside k) (value_at value c.args.items.now k) = (rw c.offset-offset.ensures at c.patched_or-item.ensures) ∙ ap (unwrap_or (beside k)) stored in
    record {
      ranged = c.moved_to-range.ensures.range;
      whole = rw (c.write_at.ensures, length-set) whole;
      put = rw c.write_at.ensures (value_filled value (λ i. unwrap_or (beside i) (value_at value c.args.items.now i)) items k c.patched_or-item.result inside c.loop-k.invariant.put is);
      rest = rw c.write_at.ensures (rest_stays value items (λ i. value_at value c.args.items.now i) k c.patched_or-item.result c.loop-k.invariant.rest);
    }
