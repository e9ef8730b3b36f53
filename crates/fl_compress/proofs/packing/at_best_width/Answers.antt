use Rattle.std.proofs.Common.{◌≡◌, ap, sym, ◌∙◌, arith}
use Rattle.fl_types.specs.Integers.{bits_of_type}
use Rattle.fl_compress.specs.Choices.{part_of, with_slots}
use Rattle.fl_compress.proofs.PackedBytes.{at_best, exceptions_are, negative_unpacked, too_wide}
use Rattle.fl_compress.proofs.packing.at_best_width.Goals as goal

pub returns-then-statistics : goal.returns-then-statistics
returns-then-statistics c = λ slots long counted. sym (negative_unpacked (with_slots (part_of c.args.part c.args.array.now) slots) c.args.statistics.now counted c.if-statistics.true)

pub returns-then-from-bit_width : goal.returns-then-from-bit_width
returns-then-from-bit_width c = λ slots long counted.
    let bits : c.bit_width.result ≡ bits_of_type (part_of c.args.part c.args.array.now).ptype = c.bit_width.ensures ∙ ap bits_of_type c.ptype_of.ensures in
    sym (too_wide (with_slots (part_of c.args.part c.args.array.now) slots) c.args.statistics.now counted c.if-statistics.false (omega arith))

pub returns : goal.returns
returns c = λ slots long counted.
    let q = with_slots (part_of c.args.part c.args.array.now) slots in
    let bits : c.bit_width.result ≡ bits_of_type (part_of c.args.part c.args.array.now).ptype = c.bit_width.ensures ∙ ap bits_of_type c.ptype_of.ensures in
    at_best q c.args.statistics.now c.bytes_at.result counted c.if-statistics.false (omega arith) (c.bytes_at.ensures.value slots long (exceptions_are q c.args.statistics.now counted))
