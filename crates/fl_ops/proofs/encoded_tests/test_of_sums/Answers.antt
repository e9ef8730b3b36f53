use Rattle.std.proofs.Common.{◌≡◌, ◌∙◌, ap, sym, ℤ, pos, ◌+ℤ◌, Option}
use Rattle.std.specs.Prelude.{unwrap_or}
use Rattle.fl_types.specs.Integers.{wrap}
use Rattle.fl_types.specs.Values.{integer_of, ptype_of_value, scalar_parts}
use Rattle.fl_column.specs.Columns.{ptype_of_column}
use Rattle.fl_bitpacking.specs.RangeTests.{passes}
use Rattle.fl_array.specs.Trees.{column}
use Rattle.fl_ops.proofs.ComparedLaws.{reference_typed}
use Rattle.fl_ops.proofs.encoded_tests.test_of_sums.Goals as goal

pub of_sums-requires : goal.of_sums-requires
of_sums-requires c = rw (reference_typed c.args.array.now (scalar_parts c.args.reference) (ptype_of_value c.in-Some.reference) c.for_is_well_formed.ensures.accepted c.requires.same c.in-Some.ensures.typed) c.requires.test

pub returns-clause-test : goal.returns-clause-test
returns-clause-test c z =
    let typed = reference_typed c.args.array.now (scalar_parts c.args.reference) (ptype_of_value c.in-Some.reference) c.for_is_well_formed.ensures.accepted c.requires.same c.in-Some.ensures.typed in
    let value : integer_of c.in-Some.reference ≡ unwrap_or (scalar_parts c.args.reference).value (pos 0) = ap (λ (o : Option ℤ). unwrap_or o (pos 0)) (sym c.in-Some.ensures.value) in
    c.of_sums.ensures.test z ∙ (ap (λ t. passes c.args.range (wrap t (z +ℤ integer_of c.in-Some.reference))) typed ∙ ap (λ r. passes c.args.range (wrap (ptype_of_column (column c.args.array.now.encoded)) (z +ℤ r))) value)

pub returns-clause-typed : goal.returns-clause-typed
returns-clause-typed c = rw (reference_typed c.args.array.now (scalar_parts c.args.reference) (ptype_of_value c.in-Some.reference) c.for_is_well_formed.ensures.accepted c.requires.same c.in-Some.ensures.typed) at c.of_sums.ensures.typed
