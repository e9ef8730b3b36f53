use Rattle.std.proofs.Common.{◌/◌, length, refl, sym, ◌∙◌}
use Rattle.flcol_c.proofs.FeetLaws.{last_found, nothing_found}
use Rattle.flcol_c.proofs.feet.last_end.Goals as goal

pub returns-then-branch : goal.returns-then-branch
returns-then-branch c =
    last_found c.args.bytes.now (length c.args.bytes.now / 64) c.loop-i.i c.in_ok-check_begun.ensures refl c.loop-i-test.true (sym c.if-branch.true ∙ c.in_ok-ends_with_foot.ensures.1) c.loop-i.invariant

pub returns : goal.returns
returns c = nothing_found c.args.bytes.now (length c.args.bytes.now / 64) c.loop-i.i c.in_ok-check_begun.ensures refl c.loop-i-test.false c.loop-i.invariant
