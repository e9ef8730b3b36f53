use Rattle.std.proofs.Common.{arith, sym, ◌∙◌}
use Rattle.flcol_engine.proofs.WordLemmas.{digit_seen, other_seen}
use Rattle.flcol_engine.proofs.text.are_digits.Goals as goal

pub loop-c-preserved : goal.loop-c-preserved
loop-c-preserved c = digit_seen _ _ c.loop-c-test.true (sym c.if-not-is_ascii_digit.ensures.value) c.loop-c.invariant

pub returns-then-not-is_ascii_digit : goal.returns-then-not-is_ascii_digit
returns-then-not-is_ascii_digit c = sym (other_seen _ _ c.loop-c-test.true (sym c.if-not-is_ascii_digit.ensures.value) c.loop-c.invariant)
