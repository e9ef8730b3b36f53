use Rattle.std.proofs.Common.{◌≡◌, ◌∙◌, sym, ap, rules, FitsSigned, Some, None, cond}
use Rattle.std.specs.Int.{w128}
use Rattle.std.specs.Prelude.{option_and_then}
use Rattle.std.proofs.lemmas.Int.{to_z-of_z}
use Rattle.fl_types.specs.Integers.{fits}
use Rattle.flcol_engine.specs.Text.{integer_in_text}
use Rattle.flcol_engine.proofs.IntegerLemmas.{within_read}
use Rattle.flcol_engine.proofs.text.typed_integer.Goals as goal

pub returns : goal.returns
returns g c =
    let z = c.in_ok-value.value in
    let fit : FitsSigned w128 z = search rules in
    let read : integer_in_text c.args.text.now ≡ Some z = within_read (integer_in_text c.args.text.now) z (sym c.in_ok-value.ensures) in
    (simp to_z-of_z at c.typed.ensures) ∙ sym (ap (option_and_then (λ y. cond (fits g.T.NativePType.PTYPE y) (Some y) None)) read)
