use Rattle.std.proofs.Common.{◌≡◌, ◌<◌, true, length, arith, ap, sym, ◌∙◌}
use Rattle.std.specs.Prelude.{nat_lt, ◌||◌, ◌==◌}
use Rattle.std.proofs.lemmas.Bool.{lt-ltb}
use Rattle.fl_column.specs.Columns.{column_of_primitive, numbers_of}
use Rattle.fl_codec.proofs.RunChecks.{numbers_long, offsets_fail, offsets_pass}
use Rattle.fl_codec.proofs.rle.refusals.are_run_offsets.Goals as goal

pub returns-then-not-is_chunk : goal.returns-then-not-is_chunk
returns-then-not-is_chunk c =
    let offsets = numbers_of (column_of_primitive c.args.offsets.now) in
    let long = numbers_long c.args.offsets.now c.validity-validity.ensures.covers in
    let all = c.len-chunks.ensures.slots in
    let more = c.loop-k-test.true in
    let within : c.loop-k.k < length offsets = omega arith in
    sym (offsets_fail offsets c.args.count c.loop-k.k within (sym c.if-not-is_chunk.ensures))

pub returns-then-chunks-gt0 : goal.returns-then-chunks-gt0
returns-then-chunks-gt0 c =
    let offsets = numbers_of (column_of_primitive c.args.offsets.now) in
    let long = numbers_long c.args.offsets.now c.validity-validity.ensures.covers in
    let all = c.len-chunks.ensures.slots in
    let last = c.loop-k-test.false in
    let same : length offsets ≡ c.len-chunks.result = omega arith in
    let some : nat_lt 0 c.len-chunks.result ≡ true = lt-ltb 0 c.len-chunks.result c.if-chunks-gt0.true in
    some ∙ sym (offsets_pass offsets c.args.count (λ j h. c.loop-k.invariant j (omega arith)) ∙ ap (λ b. b || (c.args.count == 0)) (ap (nat_lt 0) same ∙ some))
