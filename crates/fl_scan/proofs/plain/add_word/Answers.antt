use Rattle.std.proofs.Common.{◌∙◌, ◌+◌, ◌<◌, ◌≤◌, ◌++◌, ◌∷◌, [], ap, arith, length, map, sym, take}
use Rattle.std.proofs.lemmas.List.{length-map}
use Rattle.std.proofs.Math.Path.{subst}
use Rattle.fl_types.specs.Bits.{bits_of_word, kept}
use Rattle.fl_scan.proofs.MaskLaws.{prefix_kept, word_no, word_yes}
use Rattle.fl_scan.proofs.StepLaws.{mapped_item}
use Rattle.fl_scan.proofs.plain.add_word.Goals as goal
use Rattle.fl_scan.proofs.plain.add_word.Goals.{then-is_set+in_ok-add, else-is_set}

pub loop-j-preserved : goal.loop-j-preserved
loop-j-preserved g c =
    let zs = map g.T.Number.value c.args.items.now in
    let j = c.loop-j.j in
    let word = c.args.word in
    let long = length-map c.args.items.now g.T.Number.value in
    let more = c.loop-j-test.true in
    let few = c.requires in
    let inside : j < length zs = omega arith in
    let short : length zs ≤ 64 = omega arith in
    let answer = c.is_set.ensures in
    let before = kept (take j (bits_of_word word)) (take j zs) in
    elim c.if-is_set.branch [
      | then-is_set+in_ok-add w ↦
          (let here = mapped_item g.T.Number.value c.args.items.now j w.index-items-j.result more w.index-items-j.is in
          let next = word_yes word zs j inside short (sym answer ∙ w.if-is_set.true) ∙ ap (λ z. before ++ z ∷ []) here in
          let gathered = g.met.F.Fold.joined c.args.fold.now c.loop-j.fold w.add.new.self before _ c.loop-j.invariant w.in_ok-add.ensures.gathered in
          subst (λ f. g.F.Fold.Leads c.args.fold.now (kept (take (j + 1) (bits_of_word word)) (take (j + 1) zs)) f) (sym w.fold-is) (subst (λ ys. g.F.Fold.Leads c.args.fold.now ys w.add.new.self) (sym next) gathered))
      | else-is_set w ↦
          (let same = word_no word zs j inside short (sym answer ∙ w.if-is_set.false) in
          subst (λ f. g.F.Fold.Leads c.args.fold.now (kept (take (j + 1) (bits_of_word word)) (take (j + 1) zs)) f) (sym w.fold-is) (subst (λ ys. g.F.Fold.Leads c.args.fold.now ys c.loop-j.fold) (sym same) c.loop-j.invariant))
    ]

pub returns-clause-gathered : goal.returns-clause-gathered
returns-clause-gathered g c =
    let zs = map g.T.Number.value c.args.items.now in
    let long = length-map c.args.items.now g.T.Number.value in
    let ended = c.loop-j-test.false in
    subst (λ ys. g.F.Fold.Leads c.args.fold.now ys c.loop-j.fold) (prefix_kept (bits_of_word c.args.word) zs c.loop-j.j (omega arith)) c.loop-j.invariant
