use Rattle.std.proofs.Common.{◌≡◌, length, ◌∙◌, sym}
use Rattle.std.proofs.lemmas.Bool.{eqb-true}
use Rattle.fl_bitmaps.proofs.AnswerLaws.{bytes_joined, known_joined, other_known_joined}
use Rattle.fl_bitmaps.proofs.ErrorLaws.{empty, fit}
use Rattle.fl_bitmaps.proofs.logic.join.Goals as goal

pub returns-then-is_empty-clause-joined : goal.returns-then-is_empty-clause-joined
returns-then-is_empty-clause-joined g c =
    let lengths = fit (length c.args.bits.now) (length c.args.validity.now) (length c.args.other.now) (length c.args.other_validity.now) _ _ (sym c.in_ok-check_joined.ensures) in
    let none : length c.args.validity.now ≡ 0 = eqb-true _ 0 (sym c.is_empty.ensures ∙ c.if-is_empty.true) in
    known_joined g.O.Operator.of c.args.bits.now c.args.validity.now c.args.other.now c.args.other_validity.now c.join_known.new.bits (empty c.args.validity.now none) (empty c.args.other_validity.now (lengths.known none)) c.join_known.ensures

pub returns-then-is_empty-2-clause-joined : goal.returns-then-is_empty-2-clause-joined
returns-then-is_empty-2-clause-joined g c =
    let none : length c.args.other_validity.now ≡ 0 = eqb-true _ 0 (sym c.is_empty-else-is_empty.ensures ∙ c.if-is_empty-2.true) in
    other_known_joined g.O.Operator.of c.args.bits.now c.args.validity.now c.args.other.now c.args.other_validity.now c.join_with_known.new.bits c.join_with_known.new.validity (empty c.args.other_validity.now none) c.join_with_known.ensures

pub returns-else-is_empty-2-clause-joined : goal.returns-else-is_empty-2-clause-joined
returns-else-is_empty-2-clause-joined g c = bytes_joined g.O.Operator.of c.args.bits.now c.args.validity.now c.args.other.now c.args.other_validity.now c.join_each.new.bits c.join_each.new.validity c.join_each.ensures
