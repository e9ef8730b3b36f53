use Rattle.std.proofs.Common.{◌∙◌, sym}
use Rattle.std.specs.Prelude.{option_map}
use Rattle.fl_scan.proofs.StepLaws.{greatest_once, least_once}
use Rattle.fl_scan.proofs.folds.extremes.ExtremesFold.add_repeated.Goals as goal

pub returns-in_ok-add-clause-gathered : goal.returns-in_ok-add-clause-gathered
returns-in_ok-add-clause-gathered g c =
    let value = g.T.Number.value in
    let times = c.args.times in
    let v = value c.args.item in (
      c.in_ok-add.ensures.gathered.0 ∙ sym (least_once (option_map (λ p. value p.0) c.args.self.now.found) times v c.if-times-gt0.true),
      c.in_ok-add.ensures.gathered.1 ∙ sym (greatest_once (option_map (λ p. value p.1) c.args.self.now.found) times v c.if-times-gt0.true),
    )
