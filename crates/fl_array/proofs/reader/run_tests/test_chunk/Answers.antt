use Rattle.std.proofs.Common.{◌≡◌, ◌+◌, ◌%◌, ap, length, map, subst, true, arith}
use Rattle.std.proofs.lemmas.List.{length-map}
use Rattle.fl_column.specs.Columns.{Column}
use Rattle.fl_bitpacking.specs.RangeTests.{passes}
use Rattle.fl_bitpacking.specs.ValueAnswers.{named_answer}
use Rattle.fl_array.specs.BlockAnswers.{AreBlockAnswers}
use Rattle.fl_array.specs.Ranges.{items_fit}
use Rattle.fl_array.specs.Trees.{column}
use Rattle.fl_array.proofs.RunTests.{chunk_room, looked_up, names_answered}
use Rattle.fl_array.proofs.reader.run_tests.test_chunk.Goals as goal

pub values_of_chunk-own-requires-clause-chunk : goal.values_of_chunk-own-requires-clause-chunk
values_of_chunk-own-requires-clause-chunk g c =
    let room = chunk_room c.args.runs.now.array.now c.args.j c.prove_well_formed.ensures c.requires.block in
    let all = ap (λ (x : Column). length x.items) c.requires.parts.own_indices in
    omega arith

pub test_names-requires-clause-block : goal.test_names-requires-clause-block
test_names-requires-clause-block g c =
    let room = chunk_room c.args.runs.now.array.now c.args.j c.prove_well_formed.ensures c.requires.block in
    let all = ap (λ (x : Column). length x.items) c.requires.parts.own_indices in
    omega arith

pub look_up_names-requires-clause-block : goal.look_up_names-requires-clause-block
look_up_names-requires-clause-block g c =
    let room = chunk_room c.args.runs.now.array.now c.args.j c.prove_well_formed.ensures c.requires.block in
    let all = ap (λ (x : Column). length x.items) c.requires.parts.own_indices in
    omega arith

pub returns-in-Same-clause-answers : goal.returns-in-Same-clause-answers
returns-in-Same-clause-answers g c =
    let a = c.args.runs.now.array.now in
    let fit : items_fit (column a.indices) ≡ true = rw (← c.indices.ensures) c.prove_in_range.ensures in
    names_answered (λ z. c.in-Same.passing) (passes c.args.range) a (map g.T.Number.value c.values_of_chunk-own.result.now) c.fill.new.bits c.args.j c.prove_well_formed.ensures fit c.values_of_chunk-own.ensures (rw c.in-Same.is at c.test_values.ensures)
    (λ i z inside at e. c.fill.ensures.bits ((0 + i) % 1024) (omega arith))

pub returns-in-Places-clause-answers : goal.returns-in-Places-clause-answers
returns-in-Places-clause-answers g c =
    let a = c.args.runs.now.array.now in
    let bits = c.test_names.new.bits in
    let fit : items_fit (column a.indices) ≡ true = rw (← c.indices.ensures) c.prove_in_range.ensures in
    let both = rw c.in-Places.is at c.test_values.ensures in
    names_answered (passes c.in-Places.places) (passes c.args.range) a (map g.T.Number.value c.values_of_chunk-own.result.now) bits c.args.j c.prove_well_formed.ensures fit c.values_of_chunk-own.ensures both.1
    (subst (λ (x : Column). AreBlockAnswers (passes c.in-Places.places) bits c.args.j 0 x) c.requires.parts.own_indices c.test_names.ensures.answers)

pub returns-in-Mixed-clause-answers : goal.returns-in-Mixed-clause-answers
returns-in-Mixed-clause-answers g c =
    let a = c.args.runs.now.array.now in
    let own = map g.T.Number.value c.values_of_chunk-own.result.now in
    let answers = c.test_each.new.answers in
    let bits = c.look_up_names.new.bits in
    let fit : items_fit (column a.indices) ≡ true = rw (← c.indices.ensures) c.prove_in_range.ensures in
    let few = c.values_of_chunk-own.ensures.few in
    names_answered (named_answer answers) (passes c.args.range) a own bits c.args.j c.prove_well_formed.ensures fit c.values_of_chunk-own.ensures
    (λ k h. looked_up (passes c.args.range) own answers k (omega arith) (c.test_each.ensures.answers k (rw length-map at h)))
    (subst (λ (x : Column). AreBlockAnswers (named_answer answers) bits c.args.j 0 x) c.requires.parts.own_indices c.look_up_names.ensures.answers)
