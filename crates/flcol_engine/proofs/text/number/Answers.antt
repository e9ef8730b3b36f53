use Rattle.std.proofs.Common.{arith, sym, ◌∙◌}
use Rattle.flcol_engine.proofs.TextLemmas.{next_digit, not_digit, number_read, too_large}
use Rattle.flcol_engine.proofs.text.number.Goals as goal

pub returns-then-value-max : goal.returns-then-value-max
returns-then-value-max c = sym (too_large _ _ _ _ c.loop-c-test.true (sym c.if-not-is_ascii_digit.ensures.value) (omega arith) c.loop-c.invariant.reading)

pub returns-then-digit-max : goal.returns-then-digit-max
returns-then-digit-max c = sym (too_large _ _ _ _ c.loop-c-test.true (sym c.if-not-is_ascii_digit.ensures.value) (omega arith) c.loop-c.invariant.reading)

pub returns-then-not-is_ascii_digit : goal.returns-then-not-is_ascii_digit
returns-then-not-is_ascii_digit c = sym (not_digit _ _ _ _ c.loop-c-test.true (sym c.if-not-is_ascii_digit.ensures.value) c.loop-c.invariant.reading)

pub loop-c-preserved : goal.loop-c-preserved
loop-c-preserved c = record {
  reading = next_digit _ _ _ _ c.loop-c-test.true (sym c.if-not-is_ascii_digit.ensures.value) c.from-digit.ensures c.loop-c.invariant.reading;
  small = omega arith;
}

pub returns : goal.returns
returns c = sym (number_read _ _ _ _ (sym c.is_empty.ensures ∙ c.if-is_empty.false) c.loop-c-test.false c.loop-c.invariant.small c.loop-c.invariant.reading)
