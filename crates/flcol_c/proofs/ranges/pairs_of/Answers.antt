use Rattle.std.proofs.Common.{◌≡◌, ◌∙◌, ◌+◌, ◌++◌, ◌∷◌, [], ℕ, take, get_or, ap, sym, arith}
use Rattle.std.proofs.lemmas.List.{get_or_default, take_all}
use Rattle.fl_column.proofs.ItemLaws.{map_read}
use Rattle.flcol_c.specs.declared.ranges.ItemRange.{ItemRange}
use Rattle.flcol_c.specs.Operations.{pairs_of}
use Rattle.flcol_c.proofs.ranges.pairs_of.Goals as goal

pub returns : goal.returns
returns c =
    let ranges = c.args.ranges.now in
    let full : take c.loop-range.range-index ranges ≡ ranges = take_all c.loop-range.range-index ranges (omega arith) in
    c.loop-range.invariant.begun ∙ ap pairs_of full

pub loop-range-preserved : goal.loop-range-preserved
loop-range-preserved c =
    let ranges = c.args.ranges.now in
    let i = c.loop-range.range-index in
    let within = c.loop-range-test.true in
    let pair : ItemRange → ℕ × ℕ = λ range. (range.start, range.len) in
    let range : ItemRange = get_or ranges i (record { start = 0; len = 0 }) in
    let more : pairs_of (take (i + 1) ranges) ≡ pairs_of (take i ranges) ++ pair range ∷ [] = map_read pair ranges i range within (get_or_default ranges i (record { start = 0; len = 0 }) range within) in
    record { begun = c.in_ok-push.ensures.items ∙ (ap (λ pairs. pairs ++ pair range ∷ []) c.loop-range.invariant.begun ∙ sym more) }

pub loop-range-init : goal.loop-range-init
loop-range-init c = record { begun = c.in_ok-pairs.ensures.items }
