use Rattle.std.proofs.Common.{◌≡◌, ap, length, sym, ◌∙◌, arith}
use Rattle.fl_array.proofs.EncodedRLE.{ok_is}
use Rattle.fl_encode.specs.SchemeShapes.{shape}
use Rattle.fl_serde.specs.ByteCounts.{validity_bytes}
use Rattle.fl_compress.specs.Choices.{chosen}
use Rattle.fl_compress.proofs.AnswerLaws.{dear_deltas, deltas_choice, free_deltas, no_delta_choice, not_nested, passed_on}
use Rattle.fl_compress.proofs.search.+choose_framed_or_deltas.Goals as goal

pub returns-then-framed-eq0-clause-choice : goal.returns-then-framed-eq0-clause-choice
returns-then-framed-eq0-clause-choice t c =
    free_deltas c.args.nested c.args.limits.now c.args.depth c.args.array.now (shape c.in_ok-framed.framed.scheme) c.in_ok-framed.framed.bytes c.in_ok-framed.ensures.choice c.if-framed-eq0.true

pub returns-then-nested-eq0-clause-choice : goal.returns-then-nested-eq0-clause-choice
returns-then-nested-eq0-clause-choice t c =
    not_nested c.args.nested c.args.limits.now c.args.depth c.args.array.now (chosen c.in_ok-framed.framed) c.if-nested-eq0.true c.in_ok-framed.ensures.choice

pub returns-then-not-has_level-clause-choice : goal.returns-then-not-has_level-clause-choice
returns-then-not-has_level-clause-choice t c =
    no_delta_choice c.args.nested c.args.limits.now c.args.depth c.args.array.now (chosen c.in_ok-framed.framed) (sym c.has_level.ensures ∙ c.if-not-has_level.true) c.in_ok-framed.ensures.choice

pub returns-then-framed-deltas-clause-choice : goal.returns-then-framed-deltas-clause-choice
returns-then-framed-deltas-clause-choice t c =
    let p = c.args.array.now in
    let own : c.validity_bytes-own.result ≡ validity_bytes (length p.slots) p.validity = c.validity_bytes-own.ensures.value ∙ (ap (λ n. validity_bytes n c.validity.result.now) c.len.ensures.slots ∙ ap (validity_bytes (length p.slots)) c.validity.ensures.value) in
    let some = c.if-nested-eq0.false in
    dear_deltas c.args.nested c.args.limits.now c.args.depth p (shape c.in_ok-framed.framed.scheme, c.in_ok-framed.framed.bytes) (shape c.in_ok-deltas.deltas.scheme, c.in_ok-deltas.deltas.bytes) c.validity_bytes-own.result
    (omega arith) (sym c.has_level.ensures ∙ c.if-not-has_level.false) c.in_ok-framed.ensures.choice own c.in_ok-deltas.ensures.choice (omega arith)

pub returns-clause-choice : goal.returns-clause-choice
returns-clause-choice t c =
    let p = c.args.array.now in
    let own : c.validity_bytes-own.result ≡ validity_bytes (length p.slots) p.validity = c.validity_bytes-own.ensures.value ∙ (ap (λ n. validity_bytes n c.validity.result.now) c.len.ensures.slots ∙ ap (validity_bytes (length p.slots)) c.validity.ensures.value) in
    let some = c.if-nested-eq0.false in
    deltas_choice c.args.nested c.args.limits.now c.args.depth p c.in_ok-bases.bases (chosen c.in_ok-framed.framed) (chosen c.in_ok-chosen_bases.chosen_bases) (chosen c.in_ok-made.made) (chosen c.cheaper.result)
    (shape c.in_ok-deltas.deltas.scheme, c.in_ok-deltas.deltas.bytes) c.validity_bytes-own.result (omega arith) (sym c.has_level.ensures ∙ c.if-not-has_level.false) c.in_ok-framed.ensures.choice own c.in_ok-deltas.ensures.choice
    (ok_is _ _ c.in_ok-bases.ensures) c.in_ok-chosen_bases.ensures.choice c.in_ok-made.ensures c.cheaper.ensures.choice

pub returns-in_err-bases-clause-choice : goal.returns-in_err-bases-clause-choice
returns-in_err-bases-clause-choice t c = passed_on chosen c.from_residual-in_err-bases.result c.in_err-bases.field-0.0 _ _ c.from_residual-in_err-bases.ensures.1 c.in_err-bases.ensures

pub returns-in_err-chosen_bases-clause-choice : goal.returns-in_err-chosen_bases-clause-choice
returns-in_err-chosen_bases-clause-choice t c = passed_on chosen c.from_residual-in_err-chosen_bases.result c.in_err-chosen_bases.field-0.0 _ _ c.from_residual-in_err-chosen_bases.ensures.1 c.in_err-chosen_bases.ensures.choice
