use Rattle.std.proofs.Common.{◌≡◌, ℕ, ◌+◌, ◌-◌, ◌*◌, ◌%◌, ◌∙◌, true, false, length, drop, get_or, refl, ap, sym, arith, length-take, length-drop}
use Rattle.fl_types.specs.Bits.{bit_of_word}
use Rattle.fl_bitpacking.specs.Blocks.{blocks_of, bytes_of_block, item_of_blocks}
use Rattle.fl_bitpacking.specs.Readings.{bytes_at}
use Rattle.fl_bitpacking.proofs.Bounds.{width_named}
use Rattle.fl_bitpacking.proofs.FilteredLaws.{bit_below, item_in, part_read}
use Rattle.fl_bitpacking.proofs.TakenLaws.{block_bytes}
use Rattle.fl_bitpacking.proofs.compute.filter.Filtering.read_items.Goals as goal

pub of_block-width-requires : goal.of_block-width-requires
of_block-width-requires g c = c.requires.readable.names c.args.j c.requires.block

pub read_set-requires-clause-room : goal.read_set-requires-clause-room
read_set-requires-clause-room g c =
    let room = c.requires.readable.within.room c.args.j c.requires.block in
    let start = c.requires.start in
    let size = ap length c.loop-k.invariant.read.bytes in
    let width = c.of_block-width.ensures ∙ sym (width_named c.args.self.blocks.widths c.args.j (c.requires.readable.names c.args.j c.requires.block)) in
    omega arith

pub read_set-requires-clause-width : goal.read_set-requires-clause-width
read_set-requires-clause-width g c =
    let narrow = c.requires.readable.within.narrow c.args.j c.requires.block in
    let width = c.of_block-width.ensures ∙ sym (width_named c.args.self.blocks.widths c.args.j (c.requires.readable.names c.args.j c.requires.block)) in
    omega arith

pub read_set-requires-clause-within : goal.read_set-requires-clause-within
read_set-requires-clause-within g c =
    let at = 64 * c.loop-k.k in
    let here = c.min-count.ensures in
    let kept = c.loop-k.auto.items in
    let first = c.requires.first in
    let last = c.requires.last in
    let taken = length-take (at + c.min-count.result - at) (drop at c.loop-k.items) in
    let rest = length-drop at c.loop-k.items in
    omega arith

pub read_set-requires-clause-set : goal.read_set-requires-clause-set
read_set-requires-clause-set g c j set =
    let at = 64 * c.loop-k.k in
    let here = c.min-count.ensures in
    let kept = c.loop-k.auto.items in
    let inside = bit_below c.word_from-word.result c.min-count.result j c.word_from-word.ensures.clear set in
    let taken = length-take (at + c.min-count.result - at) (drop at c.loop-k.items) in
    let rest = length-drop at c.loop-k.items in
    omega arith

pub loop-k-preserved : goal.loop-k-preserved
loop-k-preserved g c =
    let value = g.T.Number.value in
    let ptype = g.T.NativePType.PTYPE in
    let f = c.args.self in
    let blocks = blocks_of f.blocks.widths in
    let packed = c.args.reader.now.bytes in
    let offset = f.blocks.offset in
    let from = c.args.from in
    let items = c.loop-k.items in
    let new = c.read_set.new.items in
    let at = 64 * c.loop-k.k in
    let count = c.min-count.result in
    let here = c.min-count.ensures in
    let more = c.loop-k-test.true in
    let ended = c.div_ceil-k-end.ensures in
    let kept = c.loop-k.auto.items in
    let first = c.requires.first in
    let last = c.requires.last in
    let taken = length-take (at + count - at) (drop at items) in
    let rest = length-drop at items in
    let same = c.read_set.auto.items in
    let written : length new ≡ at + count - at = omega arith in
    let width : c.of_block-width.result ≡ blocks.width c.args.j = c.of_block-width.ensures ∙ sym (width_named f.blocks.widths c.args.j (c.requires.readable.names c.args.j c.requires.block)) in
    let block = bytes_at (record { start = c.args.start; width = c.of_block-width.result }) packed in
    let bytes : block ≡ bytes_of_block blocks packed c.args.j = block_bytes blocks packed block c.args.j c.args.start c.of_block-width.result c.requires.start width refl in
    let before = c.loop-k.invariant.read in
    let more_read = c.read_set.ensures.read in
    let read_before = before.blocks in
    let read_here = more_read.blocks in
    record {
      done = λ i h set. part_read value (λ (k : ℕ). item_of_blocks ptype blocks packed (offset + (from + k))) (λ (k : ℕ). get_or f.bits.now (from + k) false) items new _ at (at + count) (omega arith) written
          (λ k below on. c.loop-k.invariant.done k (omega arith) on)
          (λ j below on.
          let place : from + at + j ≡ from + (at + j) = omega arith in
          let bit : bit_of_word c.word_from-word.result j ≡ true = c.word_from-word.ensures.bits j (omega arith) ∙ ap (λ (m : ℕ). get_or f.bits.now m false) place ∙ on in
          let end : offset + from + at + j ≡ offset + (from + (at + j)) = omega arith in
          (rw before.bytes at (c.read_set.ensures.items j bit)) ∙ item_in ptype blocks packed block c.of_block-width.result c.args.j ((offset + from + at) % 1024) (offset + from + at) j width bytes refl (omega arith) (omega arith)
          ∙ ap (λ (p : ℕ). item_of_blocks ptype blocks packed p) end) i (omega arith) set;
      read = record {
        bytes = more_read.bytes ∙ before.bytes;
        blocks = omega arith;
      };
    }

pub returns-clause-items : goal.returns-clause-items
returns-clause-items g c i h set =
    let past = c.loop-k-test.false in
    let ended = c.div_ceil-k-end.ensures in
    c.loop-k.invariant.done i (omega arith) set
