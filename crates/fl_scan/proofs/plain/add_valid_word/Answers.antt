use Rattle.std.proofs.Common.{◌∙◌, ◌≤◌, ap, arith, length, map, sym}
use Rattle.std.proofs.lemmas.List.{length-map}
use Rattle.std.proofs.Math.Path.{subst}
use Rattle.std.specs.Prelude.{OnOk}
use Rattle.fl_types.specs.Bits.{bits_of_word, kept}
use Rattle.fl_scan.proofs.MaskLaws.{full_word}
use Rattle.fl_scan.proofs.plain.add_valid_word.Goals as goal

pub returns-then-word-eq18446744073709551615-clause-gathered : goal.returns-then-word-eq18446744073709551615-clause-gathered
returns-then-word-eq18446744073709551615-clause-gathered g c =
    let zs = map g.T.Number.value c.args.items.now in
    let long = length-map c.args.items.now g.T.Number.value in
    let few = c.requires in
    let short : length zs ≤ 64 = omega arith in
    let all = ap (λ w. kept (bits_of_word w) zs) c.if-word-eq18446744073709551615.true ∙ full_word zs short in
    subst (λ ys. OnOk c.add_all.result (g.F.Fold.Leads c.args.fold.now ys c.add_all.new.self)) (sym all) c.add_all.ensures.gathered
