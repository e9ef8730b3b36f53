use Rattle.std.proofs.Common.{rules, arith}
use Rattle.std.specs.Int.{w128}
use Rattle.std.specs.Prelude.{FitsSigned}
use Rattle.std.proofs.lemmas.Int.{ints, to_z-of_z}
use Rattle.std.proofs.lemmas.Nat.{pow_pos}
use Rattle.fl_types.specs.Integers.{bits_of_type}
use Rattle.fl_bitpacking.proofs.RangeLaws.{below_next}
use Rattle.fl_bitpacking.proofs.compute.range_test.RangeTest.ends_of_type.Goals as goal

pub returns-clause-inside : goal.returns-clause-inside
returns-clause-inside c z low high =
    let first : FitsSigned w128 c.least_integer.result = search rules in
    let last : FitsSigned w128 c.greatest_integer.result = search rules in
    let near = below_next c.args.ptype z high in
    c.ends.ensures.inside z (rw (to_z-of_z w128 c.least_integer.result first, c.least_integer.ensures) low) (rw (to_z-of_z w128 c.greatest_integer.result last, c.greatest_integer.ensures) near)

pub returns-clause-low : goal.returns-clause-low
returns-clause-low c =
    let first : FitsSigned w128 c.least_integer.result = search rules in
    rw (to_z-of_z w128 c.least_integer.result first, c.least_integer.ensures) at c.ends.ensures.low

pub returns-clause-high : goal.returns-clause-high
returns-clause-high c =
    let last : FitsSigned w128 c.greatest_integer.result = search rules in
    let some = pow_pos (bits_of_type c.args.ptype) in
    let high = rw (to_z-of_z w128 c.greatest_integer.result last, c.greatest_integer.ensures) at c.ends.ensures.high in
    omega (arith, ints)
