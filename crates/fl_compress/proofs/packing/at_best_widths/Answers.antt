use Rattle.std.proofs.Common.{◌≡◌, length, sym, arith, inl, inr, false}
use Rattle.std.specs.Prelude.{◌⊎◌}
use Rattle.fl_compress.specs.Choices.{part_of, with_slots}
use Rattle.fl_compress.proofs.PackedBytes.{all_native_unpacked, in_blocks, items_alike, negative_not_in_blocks}
use Rattle.fl_compress.proofs.PartLaws.{part_covers}
use Rattle.fl_compress.proofs.packing.at_best_widths.Goals as goal
use Rattle.fl_compress.proofs.packing.at_best_widths.Goals.{else-len_of-gt0-via-then-len_of-gt0+else-statistics-2, else-len_of-gt0-via-else-len_of-gt0}

pub returns-then-statistics : goal.returns-then-statistics
returns-then-statistics c = λ slots long counted. sym (negative_not_in_blocks (with_slots (part_of c.args.part c.args.array.now) slots) c.args.statistics.now counted c.if-statistics.true)

pub returns-then-statistics-2 : goal.returns-then-statistics-2
returns-then-statistics-2 c = λ slots long counted.
    let p = part_of c.args.part c.args.array.now in
    let len = c.len_of.ensures in
    sym (all_native_unpacked (with_slots p slots) c.args.statistics.now counted (items_alike p slots (part_covers c.args.part c.args.array.now c.validity-validity.ensures.covers) long) c.if-statistics.false (omega arith) c.if-statistics-2.true)

pub returns : goal.returns
returns c = λ slots long counted.
    let p = part_of c.args.part c.args.array.now in
    let s = c.args.statistics.now in
    let len = c.len_of.ensures in
    let other : (s.all_native ≡ false) ⊎ (length slots ≡ 0) = elim c.else-len_of-gt0.branch [
      | else-len_of-gt0-via-then-len_of-gt0+else-statistics-2 w ↦ inl w.if-statistics-2.false
      | else-len_of-gt0-via-else-len_of-gt0 w ↦ inr (omega arith)
    ] in
    in_blocks (with_slots p slots) s c.bytes_of_blocks.result counted (items_alike p slots (part_covers c.args.part c.args.array.now c.validity-validity.ensures.covers) long) c.if-statistics.false other (c.bytes_of_blocks.ensures slots long counted)
