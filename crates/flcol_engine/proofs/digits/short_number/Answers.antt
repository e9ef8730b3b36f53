use Rattle.std.proofs.Common.{◌≤◌, length, arith, rules}
use Rattle.std.specs.Char.{is_ascii_digit}
use Rattle.flcol_engine.proofs.DigitLemmas.{begins, run_within}
use Rattle.flcol_engine.proofs.digits.short_number.Goals as goal

pub bounds-bytes-count : goal.bounds-bytes-count
bounds-bytes-count c =
    let within = run_within is_ascii_digit c.in_ok-bytes.bytes.now in
    let len : length c.in_ok-bytes.bytes.now ≤ 16 = search rules in
    omega (arith, within, len, c.leading_digits-count.ensures, c.if-count-eq16.false)

pub returns : goal.returns
returns c =
    let within = run_within is_ascii_digit c.in_ok-bytes.bytes.now in
    let len : length c.in_ok-bytes.bytes.now ≤ 16 = search rules in
    begins c.args.text.now c.in_ok-bytes.bytes.now c.leading_digits-count.result c.leading_number.result c.in_ok-bytes.ensures.cases.enough c.in_ok-bytes.ensures.cases.same c.leading_digits-count.ensures c.if-count-eq0.false (omega (arith, within, len, c.leading_digits-count.ensures, c.if-count-eq16.false)) c.if-bytes-count-ne10.false c.leading_number.ensures
