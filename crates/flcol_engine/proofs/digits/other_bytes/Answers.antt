use Rattle.std.proofs.Common.{◌%◌, ◌^◌, ◌∙◌, ap, map, not, arith}
use Rattle.std.specs.Char.{is_ascii_digit}
use Rattle.std.specs.Simd.Lanes.{mask_l}
use Rattle.std.proofs.lemmas.List.{length-map}
use Rattle.std.proofs.lemmas.Simd.{mask_l-mod}
use Rattle.flcol_engine.proofs.DigitLemmas.{other_lanes}
use Rattle.flcol_engine.proofs.digits.other_bytes.Goals as goal

pub returns : goal.returns
returns c = ap (λ ms. mask_l ms % 2 ^ 64) (other_lanes 16 c.args.bytes c.fits-bytes.0 c.fits-bytes.1) ∙ mask_l-mod (map (λ b. not (is_ascii_digit b)) c.args.bytes) 64 (rw (length-map, c.fits-bytes.0) (omega arith))
