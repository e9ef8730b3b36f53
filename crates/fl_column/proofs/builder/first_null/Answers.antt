use Rattle.std.proofs.Common.{refl, rules}
use Rattle.fl_column.proofs.BuilderLaws.{all_set}
use Rattle.fl_column.proofs.builder.first_null.Goals as goal

pub returns : goal.returns
returns c =
    let set = all_set c.in_ok-bits.bits c.args.len c.in_ok-bits.ensures.len (λ i h. let e = c.in_ok-bits.ensures.bits i h in search rules) in
    rw (c.in_ok-push.ensures.ok, set) refl
