use Rattle.std.proofs.Common.{◌≡◌, ◌≢◌, length, ◌∙◌, sym}
use Rattle.std.proofs.lemmas.Bool.{eqb-false, eqb-true}
use Rattle.fl_bitmaps.specs.Errors.{counted_error}
use Rattle.fl_bitmaps.proofs.CountLaws.{answers_counted, known_counted}
use Rattle.fl_bitmaps.proofs.ErrorLaws.{allowed}
use Rattle.fl_bitmaps.proofs.counting.count.Goals as goal

pub returns-then-is_empty : goal.returns-then-is_empty
returns-then-is_empty c =
    let bits = c.args.bits.now in
    let validity = c.args.validity.now in
    let none : length validity ≡ 0 = eqb-true (length validity) 0 (sym c.is_empty.ensures ∙ c.if-is_empty.true) in
    allowed (counted_error c.args.len (length bits) (length validity)) _ _ _ _ c.in_ok-check_counted.ensures (c.count_both.ensures ∙ known_counted bits validity c.args.len none)

pub returns-else-is_empty : goal.returns-else-is_empty
returns-else-is_empty c =
    let bits = c.args.bits.now in
    let validity = c.args.validity.now in
    let some : length validity ≢ 0 = eqb-false (length validity) 0 (sym c.is_empty.ensures ∙ c.if-is_empty.false) in
    allowed (counted_error c.args.len (length bits) (length validity)) _ _ _ _ c.in_ok-check_counted.ensures (c.count_both-else-is_empty.ensures ∙ answers_counted bits validity c.args.len some)
