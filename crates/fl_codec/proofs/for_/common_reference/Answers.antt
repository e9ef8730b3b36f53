use Rattle.std.proofs.Common.{◌<◌, map, length, arith, ap, sym, ◌∙◌}
use Rattle.std.specs.List.{list_all}
use Rattle.std.specs.Ordering.{int_eq}
use Rattle.std.proofs.lemmas.List.{length-map, take_all}
use Rattle.fl_codec.proofs.ReferenceLaws.{all_read, common-none, common-some, value_at}
use Rattle.fl_codec.proofs.for_.common_reference.Goals as goal

pub returns-then-not-is_equal : goal.returns-then-not-is_equal
returns-then-not-is_equal g c =
    let value = g.T.Number.value in
    let references = c.args.references.now in
    let all = length-map references value in
    let i = c.loop-reference.reference-index in
    let within : i < length (map value references) = let h = c.loop-reference-test.true in omega arith in
    let first = value_at value references 0 c.index-references-0.result (omega arith) c.index-references-0.is in
    let other = value_at value references i c.reference-item.result c.loop-reference-test.true c.reference-item.is in
    sym (common-none (map value references) (value c.index-references-0.result) (value c.reference-item.result) i within first other (sym c.if-not-is_equal.ensures))

pub loop-reference-preserved : goal.loop-reference-preserved
loop-reference-preserved g c =
    let value = g.T.Number.value in
    all_read value (int_eq (value c.index-references-0.result)) c.args.references.now c.reference-item.result c.loop-reference.reference-index c.loop-reference-test.true c.reference-item.is c.loop-reference.invariant (sym c.if-not-is_equal.ensures)

pub returns : goal.returns
returns g c =
    let value = g.T.Number.value in
    let references = c.args.references.now in
    let first = value c.index-references-0.result in
    let some : 0 < length references = omega arith in
    let whole = take_all c.loop-reference.reference-index references c.loop-reference-test.false in
    common-some (map value references) first (rw length-map some) (value_at value references 0 c.index-references-0.result some c.index-references-0.is)
    (ap (λ xs. list_all (int_eq first) (map value xs)) (sym whole) ∙ c.loop-reference.invariant)
