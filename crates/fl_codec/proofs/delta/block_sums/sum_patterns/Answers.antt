use Rattle.std.proofs.Common.{◌≡◌, arith, ◌∙◌}
use Rattle.std.proofs.lemmas.List.{take_all}
use Rattle.fl_codec.proofs.delta.block_sums.sum_patterns.Goals as goal

pub returns-clause-items : goal.returns-clause-items
returns-clause-items g c q h =
    let long = c.requires.deltas in
    let whole : c.in-Some.deltas.now ≡ c.args.deltas.now = c.in-Some.ensures.cases.same ∙ take_all 1024 c.args.deltas.now (omega arith) in
    rw (← whole) (c.undelta_to_items.ensures.items q h)
