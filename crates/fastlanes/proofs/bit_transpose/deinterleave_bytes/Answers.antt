use Rattle.std.proofs.Common.{◌∙◌}
use Rattle.fastlanes.proofs.Deinterleaved.{stored_first, stored_second, stored_others}
use Rattle.fastlanes.proofs.bit_transpose.deinterleave_bytes.Goals as goal

pub returns-clause-evens : goal.returns-clause-evens
returns-clause-evens c j h =
    let these = c.evens_and_odds in
    stored_first c.args.bytes.now these.result.0 these.result.1 c.args.even c.args.odd j these.ensures.whole_evens c.requires.apart c.requires.room h ∙ these.ensures.evens j h

pub returns-clause-odds : goal.returns-clause-odds
returns-clause-odds c j h =
    let these = c.evens_and_odds in
    stored_second c.args.bytes.now these.result.0 these.result.1 c.args.even c.args.odd j these.ensures.whole_odds c.requires.room h ∙ these.ensures.odds j h

pub returns-clause-others : goal.returns-clause-others
returns-clause-others c i p q =
    let these = c.evens_and_odds in
    stored_others c.args.bytes.now these.result.0 these.result.1 c.args.even c.args.odd i these.ensures.whole_evens these.ensures.whole_odds p q
