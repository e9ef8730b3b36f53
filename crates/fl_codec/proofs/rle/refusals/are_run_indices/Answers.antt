use Rattle.std.proofs.Common.{◌≡◌, ◌<◌, ◌∙◌, length, true, arith, ap, sym}
use Rattle.std.specs.List.{list_all}
use Rattle.fl_column.specs.Columns.{column_of_primitive, numbers_of}
use Rattle.fl_codec.specs.Chunks.{chunk}
use Rattle.fl_codec.specs.Parts.{items_of_primitive}
use Rattle.fl_codec.specs.RunColumns.{is_run_index, run_count}
use Rattle.fl_codec.proofs.ForwardFillLaws.{below_next}
use Rattle.fl_codec.proofs.RunChecks.{indices_fail, indices_pass, numbers_long}
use Rattle.fl_codec.proofs.rle.refusals.are_run_indices.Goals as goal

pub returns-then-not-are_named : goal.returns-then-not-are_named
returns-then-not-are_named c =
    let offsets = numbers_of (column_of_primitive c.args.offsets.now) in
    let items = items_of_primitive c.args.indices.now in
    let long = numbers_long c.args.offsets.now c.validity-validity.ensures.covers in
    let all = c.len-k-end.ensures.slots in
    let more = c.loop-k-test.true in
    let within : c.loop-k.k < length offsets = omega arith in
    sym (indices_fail items offsets c.args.count c.loop-k.k within (ap (λ n. list_all (is_run_index n) (chunk c.loop-k.k items)) (sym c.count_in_chunk.ensures) ∙ sym c.if-not-are_named.ensures))

pub returns : goal.returns
returns c =
    let offsets = numbers_of (column_of_primitive c.args.offsets.now) in
    let items = items_of_primitive c.args.indices.now in
    let long = numbers_long c.args.offsets.now c.validity-validity.ensures.covers in
    let all = c.len-k-end.ensures.slots in
    let last = c.loop-k-test.false in
    sym (indices_pass items offsets c.args.count (λ j h. c.loop-k.invariant j (omega arith)))

-- said here, where the search finds it too: a body that breaks it is refused at once
pub loop-k-preserved : goal.loop-k-preserved
loop-k-preserved c =
    let offsets = numbers_of (column_of_primitive c.args.offsets.now) in
    let items = items_of_primitive c.args.indices.now in
    let named = c.if-not-are_named.ensures in
    let here = ap (λ n. list_all (is_run_index n) (chunk c.loop-k.k items)) (sym c.count_in_chunk.ensures) ∙ sym named in
    below_next (λ j. list_all (is_run_index (run_count offsets c.args.count j)) (chunk j items) ≡ true) c.loop-k.k c.loop-k.invariant here
