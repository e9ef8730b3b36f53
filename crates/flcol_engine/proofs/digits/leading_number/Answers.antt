use Rattle.std.proofs.Common.{arith}
use Rattle.std.specs.Char.{is_ascii_digit}
use Rattle.flcol_engine.proofs.DigitLemmas.{number_by_words, run_within}
use Rattle.flcol_engine.proofs.digits.leading_number.Goals as goal

pub overflow_mul-word : goal.overflow_mul-word
overflow_mul-word c = let within = run_within is_ascii_digit c.args.bytes.now in record { fits = omega (arith, within, c.requires.digits, c.told-bytes) }

pub overflow_sub-word : goal.overflow_sub-word
overflow_sub-word c = let within = run_within is_ascii_digit c.args.bytes.now in omega (arith, within, c.requires.digits, c.told-bytes)

pub returns : goal.returns
returns c = number_by_words c.args.bytes.now c.args.count c.from_le_bytes.result c.from.result c.eight_digits.result c.eight_digits-2.result c.told-bytes c.fits-bytes c.requires.digits c.from_le_bytes.ensures c.from.ensures c.eight_digits.ensures.number c.eight_digits-2.ensures.number
