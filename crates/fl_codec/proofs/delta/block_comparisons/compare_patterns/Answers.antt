use Rattle.std.proofs.Common.{◌≡◌, arith, ◌∙◌}
use Rattle.std.proofs.lemmas.List.{take_all}
use Rattle.fl_codec.proofs.delta.block_comparisons.compare_patterns.Goals as goal

pub returns-clause-bits : goal.returns-clause-bits
returns-clause-bits g c i h =
    let long = c.requires.deltas in
    let whole : c.in-Some.deltas.now ≡ c.args.deltas.now = c.in-Some.ensures.cases.same ∙ take_all 1024 c.args.deltas.now (omega arith) in
    rw (← whole) (c.undelta_cmp.ensures.bits i h)
