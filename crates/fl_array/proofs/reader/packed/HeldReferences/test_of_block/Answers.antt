use Rattle.std.proofs.Common.{◌≡◌, ◌<◌, ◌∙◌, ℤ, List, ap, get_or, length, map, pos, sym, arith}
use Rattle.std.proofs.lemmas.List.{get_or-map, length-map}
use Rattle.fl_types.specs.Values.{integer_of, ptype_of_value}
use Rattle.fl_column.specs.Columns.{PrimitiveParts}
use Rattle.fl_bitpacking.specs.RangeTests.{passes}
use Rattle.fl_array.specs.PrimitiveCows.{primitive_of_cow}
use Rattle.fl_array.proofs.ReadPacked.{block_sums_answered, sums_answered}
use Rattle.fl_array.proofs.reader.packed.HeldReferences.test_of_block.Goals as goal

pub returns-in-Global-clause-sums : goal.returns-in-Global-clause-sums
returns-in-Global-clause-sums g c bits offset column typed answers =
    let r = c.in-Global.reference in
    let own = rw c.in-Global.is at c.requires.references in
    rw c.in-Global.is (sums_answered (passes c.of_sums.result) (passes c.args.range) g.T.NativePType.PTYPE (ptype_of_value r) (integer_of r) bits c.args.j offset column own typed c.of_sums.ensures.test answers)

pub returns-in-PerBlock-clause-sums : goal.returns-in-PerBlock-clause-sums
returns-in-PerBlock-clause-sums g c bits offset column typed answers =
    let value = g.T.Number.value in
    let j = c.args.j in
    let xs = c.as_slice-references.result.now in
    let held = primitive_of_cow c.in-PerBlock.references in
    let own = rw c.in-PerBlock.is at c.requires.references in
    let slots : map value xs ≡ held.slots = c.as_slice-references.ensures ∙ ap (λ (p : PrimitiveParts). p.slots) c.array.ensures in
    let long : length xs ≡ length held.slots = sym (length-map xs value) ∙ ap length slots in
    let enough = own.1 in
    let inside : j < length xs = omega arith in
    let pvalue = c.into_pvalue.result in
    let reference : integer_of pvalue ≡ get_or held.slots j (pos 0) =
    c.into_pvalue.ensures.value ∙ (ap value c.index-references-j.is ∙ (sym (get_or-map value xs j c.index-references-j.result (pos 0) inside) ∙ ap (λ (zs : List ℤ). get_or zs j (pos 0)) slots)) in
    rw c.in-PerBlock.is (block_sums_answered (passes c.of_sums-in-PerBlock.result) (passes c.args.range) g.T.NativePType.PTYPE (ptype_of_value pvalue) (integer_of pvalue) held.slots bits j offset column c.into_pvalue.ensures.typed typed reference c.of_sums-in-PerBlock.ensures.test answers)
