use Rattle.std.proofs.Common.{not, rules}
use Rattle.flcol_engine.proofs.ParseLemmas.{alike, differing}
use Rattle.flcol_engine.proofs.text.differing_last.Goals as goal

pub returns-clause-validity : goal.returns-clause-validity
returns-clause-validity c =
    let all = alike c.in_ok-bits.bits c.args.len (not c.args.is_valid) c.in_ok-bits.ensures.len (λ i h. let e = c.in_ok-bits.ensures.bits i h in search rules) in
    differing c.in_ok-bits.bits c.push.new.self c.args.len c.args.is_valid c.if-len-eq0.false all c.in_ok-push.ensures.ok
