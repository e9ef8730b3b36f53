use Rattle.std.proofs.Common.{ℕ, ◌-◌, ◌/◌, ◌^◌, replicate, ◌∙◌, ap, refl}
use Rattle.fastlanes.proofs.Shifts.{mask_is}
use Rattle.fastlanes.proofs.Sixteen.{zipped_splat, splatted}
use Rattle.fastlanes.proofs.words.wide.U64FastLanes.low_mask.Goals as goal

pub returns : goal.returns
returns c = record { lanes = λ j h. zipped_splat (λ x s. x / 2 ^ s) (replicate 16 (2 ^ 64 - 1)) (64 - c.args.width) j h refl ∙ (ap (λ (n : ℕ). n / 2 ^ (64 - c.args.width)) (splatted (2 ^ 64 - 1) j h) ∙ mask_is 64 c.args.width c.requires.width) }
