use Rattle.std.proofs.Common.{◌≡◌, ◌+◌, ◌*◌, ◌%◌, ◌∙◌, ap, option_map, subst, sym, unwrap_or}
use Rattle.fastlanes.specs.Compared.{has_bit}
use Rattle.fl_types.specs.declared.dtype.PType.{PType}
use Rattle.fl_patches.specs.PatchMaps.{patched_in}
use Rattle.fl_bitpacking.specs.declared.compute.range_test.RangeTest.{RangeTest}
use Rattle.fl_bitpacking.specs.BlockAnswers.{AreBlockAnswers}
use Rattle.fl_bitpacking.specs.Blocks.{blocks_of, item_of_blocks}
use Rattle.fl_bitpacking.specs.Columns.{BitPackedParts, column_of_packed}
use Rattle.fl_bitpacking.specs.Parts.{parts_of}
use Rattle.fl_bitpacking.specs.RangeTests.{passes}
use Rattle.fl_bitpacking.proofs.BlockAnswers.{block_tested}
use Rattle.fl_bitpacking.proofs.packed_data.PackedData.test_block.Goals as goal

pub returns-clause-answers : goal.returns-clause-answers
returns-clause-answers g c =
    let parts = parts_of c.column-column.result in
    let blocks = blocks_of c.args.widths in
    let j = c.args.j in
    let was = c.test_stored.new.bits in
    let bits = c.put_patches_of_block.new.bits in
    let same = c.column-column.ensures.parts in
    let range = c.new-test.ensures.range in
    let typed : c.new-test.result.ptype ≡ parts.ptype = c.new-test.ensures.typed ∙ (c.PTYPE.ensures ∙ (sym c.requires.typed ∙ ap (λ (p : BitPackedParts). p.ptype) (sym same))) in
    subst (λ (p : BitPackedParts). AreBlockAnswers (passes c.args.range) bits j p.offset (column_of_packed p blocks)) same
    (block_tested (passes c.args.range) parts blocks was bits j
    (λ q h. c.test_stored.ensures.bits q h ∙ (ap (λ (r : RangeTest). passes r (item_of_blocks c.new-test.result.ptype blocks parts.packed (1024 * j + q))) range ∙ ap (λ (t : PType). passes c.args.range (item_of_blocks t blocks parts.packed (1024 * j + q))) typed))
    (λ i inside at. c.put_patches_of_block.ensures.bits i inside at ∙ ap (λ (r : RangeTest). unwrap_or (option_map (passes r) (patched_in parts.patches i)) (has_bit was ((parts.offset + i) % 1024))) range))
