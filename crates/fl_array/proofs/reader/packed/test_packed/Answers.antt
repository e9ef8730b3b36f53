use Rattle.std.proofs.Common.{◌≡◌, ◌+◌, ◌∙◌, length, subst, arith}
use Rattle.fl_column.specs.Columns.{Column}
use Rattle.fl_bitpacking.specs.Blocks.{blocks_of}
use Rattle.fl_bitpacking.specs.Columns.{BitPackedParts, block_count, column_of_packed}
use Rattle.fl_bitpacking.specs.RangeTests.{passes}
use Rattle.fl_array.specs.BitPackedArrays.{tree_of_bitpacked}
use Rattle.fl_array.specs.BlockAnswers.{AreBlockAnswers}
use Rattle.fl_array.specs.PackedSums.{AreHeldReferences, column_of_sums}
use Rattle.fl_array.specs.Trees.{column}
use Rattle.fl_array.proofs.BitPackedLaws.{bitpacked_len}
use Rattle.fl_array.proofs.BlockWidths.{read_column}
use Rattle.fl_array.proofs.ReadPacked.{held_fewer, packed_type, sums_len, sums_typed}
use Rattle.fl_array.proofs.reader.packed.test_packed.Goals as goal

pub test_of_block-stored-requires-clause-references : goal.test_of_block-stored-requires-clause-references
test_of_block-stored-requires-clause-references g c =
    let p = c.args.packed.now in
    let a = p.array.now in
    let ptype = g.T.NativePType.PTYPE in
    let long : length (column_of_sums p).items ≡ a.parts.len = sums_len p ∙ bitpacked_len a in
    let inside = c.requires.block in
    held_fewer ptype (block_count a.parts) (c.args.j + 1) p.added (omega arith) (subst (λ t. AreHeldReferences t (block_count a.parts) p.added) (sums_typed p ptype c.requires.typed) c.requires.sound.added)

pub test_block-requires : goal.test_block-requires
test_block-requires g c =
    let p = c.args.packed.now in
    let a = p.array.now in
    let long : length (column_of_sums p).items ≡ a.parts.len = sums_len p ∙ bitpacked_len a in
    rw c.packed_data-data.ensures (record {
      typed = sums_typed p g.T.NativePType.PTYPE c.requires.typed;
      test = c.test_of_block-stored.ensures.typed;
      widths = (c.requires.sound.widths c.view-widths.result c.view-widths.ensures).sound;
      block = (let inside = c.requires.block in omega arith);
    })

pub returns-clause-answers : goal.returns-clause-answers
returns-clause-answers g c =
    let p = c.args.packed.now in
    let a = p.array.now in
    let bits = c.test_block.new.bits in
    let of = c.requires.sound.widths c.view-widths.result c.view-widths.ensures in
    let read = subst (λ (parts : BitPackedParts). AreBlockAnswers (passes c.test_of_block-stored.result) bits c.args.j parts.offset (column_of_packed parts (blocks_of c.view-widths.result))) c.packed_data-data.ensures c.test_block.ensures.answers in
    c.test_of_block-stored.ensures.sums bits a.parts.offset (column (tree_of_bitpacked a)) (packed_type p g.T.NativePType.PTYPE c.requires.typed)
    (subst (λ (x : Column). AreBlockAnswers (passes c.test_of_block-stored.result) bits c.args.j a.parts.offset x) (read_column a c.view-widths.result of) read)
