use Rattle.std.proofs.Common.{◌≡◌, ◌+◌, ◌/◌, ◌∙◌, ap, sym, length, unwrap_or}
use Rattle.fl_patches.specs.PatchMaps.{patched}
use Rattle.fl_bitpacking.specs.Blocks.{value_at}
use Rattle.fl_bitpacking.proofs.BlockSums.{patch_plus_none}
use Rattle.fl_bitpacking.proofs.Slices.{vec_written}
use Rattle.fl_bitpacking.proofs.bitpack_decompress.with_values.Goals as goal

pub returns-in-Some-clause-long : goal.returns-in-Some-clause-long
returns-in-Some-clause-long g c =
    let items = c.args.items in
    let new = c.write_patches.new.items in
    let kept : length new ≡ length items.items = c.write_patches.auto.items ∙ ap length c.deref_mut.ensures.value in
    rw (vec_written items.len new items.items (kept ∙ sym items.ok.0)) kept

pub returns-in-Some-clause-items : goal.returns-in-Some-clause-items
returns-in-Some-clause-items g c i h =
    let value = g.T.Number.value in
    let items = c.args.items in
    let new = c.write_patches.new.items in
    let kept : length new ≡ length items.items = c.write_patches.auto.items ∙ ap length c.deref_mut.ensures.value in
    let put = rw c.deref_mut.ensures.value at c.write_patches.ensures in
    rw (vec_written items.len new items.items (kept ∙ sym items.ok.0), c.in-Some.is)
    (put i h ∙ ap (λ o. unwrap_or o (value_at value items.items i)) (patch_plus_none g.T.NativePType.PTYPE ((0 + i) / 1024) (patched c.in-Some.patches.now i)))
