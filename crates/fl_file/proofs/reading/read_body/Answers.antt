use Rattle.std.proofs.Common.{◌≡◌, ◌-◌, ◌/◌, ◌∙◌, Some, ap, arith, drop, length, length-drop, refl, subst, sym, take}
use Rattle.std.proofs.lemmas.List.{take_all}
use Rattle.std.proofs.lemmas.Result.{err_from_is_err_and}
use Rattle.fl_file.specs.FootReading.{IsMissing, entries_at, type_of_word, word_at}
use Rattle.fl_file.proofs.FootSteps.{body_made, body_missing}
use Rattle.fl_file.proofs.reading.read_body.Goals as goal

pub returns-in_err-chunks : goal.returns-in_err-chunks
returns-in_err-chunks c =
    let bytes = c.args.bytes.now in
    let typed : type_of_word (word_at 0 bytes) ≡ Some (c.in-Some.ptype, c.in-Some.nullability) = sym (ap type_of_word c.word_at.ensures) ∙ sym c.type_of_word.ensures ∙ c.in-Some.is in
    let rest : take (length bytes - 8) (drop 8 bytes) ≡ drop 8 bytes = take_all (length bytes - 8) (drop 8 bytes) (omega (arith, length-drop 8 bytes)) in
    let p = err_from_is_err_and c.from_residual.result c.from_residual.ensures.1 in
    rw (p.1, p.2) (body_missing c.in_err-chunks.field-0.0 bytes c.in-Some.ptype c.in-Some.nullability typed
    (subst (λ b. IsMissing c.in_err-chunks.field-0.0 (entries_at c.in-Some.ptype (length bytes / 96) b)) rest c.in_err-chunks.ensures))

pub returns : goal.returns
returns c =
    let bytes = c.args.bytes.now in
    let typed : type_of_word (word_at 0 bytes) ≡ Some (c.in-Some.ptype, c.in-Some.nullability) = sym (ap type_of_word c.word_at.ensures) ∙ sym c.type_of_word.ensures ∙ c.in-Some.is in
    let rest : take (length bytes - 8) (drop 8 bytes) ≡ drop 8 bytes = take_all (length bytes - 8) (drop 8 bytes) (omega (arith, length-drop 8 bytes)) in
    body_made bytes c.in-Some.ptype c.in-Some.nullability (length bytes / 96) c.in_ok-chunks.chunks.items typed refl (sym (ap (entries_at c.in-Some.ptype (length bytes / 96)) rest) ∙ c.in_ok-chunks.ensures)
