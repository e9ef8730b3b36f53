use Rattle.std.proofs.Common.{◌+◌, ◌-◌, ◌*◌, ◌∙◌, ap, sym, refl, arith}
use Rattle.fl_types.specs.Integers.{bits_of_type}
use Rattle.fl_bitpacking.specs.Blocks.{block_item, blocks_of}
use Rattle.fl_bitpacking.specs.Compared.{passes_in}
use Rattle.fl_bitpacking.specs.Parts.{blocks_in}
use Rattle.fl_bitpacking.specs.RangeTests.{passes}
use Rattle.fl_bitpacking.specs.Readings.{bytes_at}
use Rattle.fl_bitpacking.proofs.BlockTestLaws.{answered_in, counted_by, tests_of_fewer}
use Rattle.fl_bitpacking.proofs.Bounds.{width_named}
use Rattle.fl_bitpacking.proofs.ComparedLaws.{bit_added, bit_before}
use Rattle.fl_bitpacking.proofs.Joined.{item_read}
use Rattle.fl_bitpacking.proofs.blocks.PackedBlocks.push_answers.Goals as goal

pub of_block-test-requires : goal.of_block-test-requires
of_block-test-requires g c = let inside = c.requires.block in tests_of_fewer (blocks_in c.args.self) (c.args.j + 1) c.args.tests (omega arith) c.requires.tests

pub test_block-requires-clause-room : goal.test_block-requires-clause-room
test_block-requires-clause-room g c =
    let room = c.requires.readable.within.room c.args.j c.requires.block in
    let start = c.requires.start in
    let width = c.of_block-width.ensures ∙ sym (width_named c.args.self.widths c.args.j (c.requires.readable.names c.args.j c.requires.block)) in
    omega arith

pub test_block-requires-clause-word : goal.test_block-requires-clause-word
test_block-requires-clause-word g c = c.requires.word ∙ ap bits_of_type (sym c.of_block-test.ensures.typed)

pub test_block-requires-clause-width : goal.test_block-requires-clause-width
test_block-requires-clause-width g c =
    let narrow = c.requires.readable.within.narrow c.args.j c.requires.block in
    let width = c.of_block-width.ensures ∙ sym (width_named c.args.self.widths c.args.j (c.requires.readable.names c.args.j c.requires.block)) in
    let typed = ap bits_of_type c.of_block-test.ensures.typed in
    omega arith

pub returns-in_err-extend_from_slice-clause-counted : goal.returns-in_err-extend_from_slice-clause-counted
returns-in_err-extend_from_slice-clause-counted g c =
    let width = c.of_block-width.ensures ∙ sym (width_named c.args.self.widths c.args.j (c.requires.readable.names c.args.j c.requires.block)) in
    let test = c.of_block-test.result in
    counted_by c.test_block.new.reader c.args.reader.now c.of_block-width.result _ test.ptype c.args.tests.test.ptype (passes test.range) (passes_in c.args.tests c.args.j) c.of_block-test.ensures.typed c.of_block-test.ensures.sums width c.test_block.ensures.counted

pub returns-clause-counted : goal.returns-clause-counted
returns-clause-counted g c =
    let width = c.of_block-width.ensures ∙ sym (width_named c.args.self.widths c.args.j (c.requires.readable.names c.args.j c.requires.block)) in
    let test = c.of_block-test.result in
    counted_by c.test_block.new.reader c.args.reader.now c.of_block-width.result _ test.ptype c.args.tests.test.ptype (passes test.range) (passes_in c.args.tests c.args.j) c.of_block-test.ensures.typed c.of_block-test.ensures.sums width c.test_block.ensures.counted

pub returns-clause-before : goal.returns-clause-before
returns-clause-before g c p h = rw (c.in_ok-extend_from_slice.ensures.items) (bit_before c.args.words.now.items _ c.args.j p c.requires.begun h)

pub returns-clause-part : goal.returns-clause-part
returns-clause-part g c p low high =
    let blocks = blocks_of c.args.self.widths in
    let width = c.of_block-width.ensures ∙ sym (width_named c.args.self.widths c.args.j (c.requires.readable.names c.args.j c.requires.block)) in
    let q = p - 1024 * c.args.j in
    let tests = c.args.tests in
    let test = c.of_block-test.result in
    let block = bytes_at (record { start = c.args.start; width = c.of_block-width.result }) c.args.reader.now.bytes in
    rw (c.in_ok-extend_from_slice.ensures.items)
    (answered_in tests blocks c.args.reader.now.bytes c.args.j q p _ (omega arith) (omega arith)
    (bit_added c.args.words.now.items _ c.args.j p c.requires.begun low
    ∙ (c.test_block.ensures.bits q (omega arith)
    ∙ (c.of_block-test.ensures.sums (block_item test.ptype c.of_block-width.result block q)
    ∙ (ap (λ t. passes_in tests c.args.j (block_item t c.of_block-width.result block q)) c.of_block-test.ensures.typed
    ∙ ap (passes_in tests c.args.j) (item_read tests.test.ptype blocks c.args.reader.now.bytes block c.args.j c.args.start c.of_block-width.result q p _ c.requires.start width refl (omega arith) (omega arith) refl))))))

pub returns-clause-next : goal.returns-clause-next
returns-clause-next g c =
    let next = c.requires.readable.joined.next c.args.j c.requires.block in
    let start = c.requires.start in
    let width = c.of_block-width.ensures ∙ sym (width_named c.args.self.widths c.args.j (c.requires.readable.names c.args.j c.requires.block)) in
    omega arith

pub overflow_mul-result : goal.overflow_mul-result
overflow_mul-result g c =
    let room = c.requires.readable.within.room c.args.j c.requires.block in
    let start = c.requires.start in
    let size = c.size-size.ensures in
    let width = c.of_block-width.ensures ∙ sym (width_named c.args.self.widths c.args.j (c.requires.readable.names c.args.j c.requires.block)) in
    omega arith

pub overflow_add-result : goal.overflow_add-result
overflow_add-result g c =
    let room = c.requires.readable.within.room c.args.j c.requires.block in
    let start = c.requires.start in
    let size = c.size-size.ensures in
    let width = c.of_block-width.ensures ∙ sym (width_named c.args.self.widths c.args.j (c.requires.readable.names c.args.j c.requires.block)) in
    omega arith
