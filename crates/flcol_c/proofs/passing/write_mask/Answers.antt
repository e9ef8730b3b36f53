use Rattle.std.proofs.Common.{◌≡◌, length, replicate, true, false, subst, sym}
use Rattle.fl_types.specs.declared.mask.Mask.TheVariants.{AllFalse, AllTrue, Values}
use Rattle.fl_types.specs.Masks.{mask_bits, mask_len}
use Rattle.fl_column.specs.Bitmaps.{bits_in}
use Rattle.flcol_c.proofs.BitmapLaws.{bits_read}
use Rattle.flcol_c.proofs.PassingLaws.{bits_alike}
use Rattle.flcol_c.proofs.passing.write_mask.Goals as goal

pub returns-in-AllTrue-clause-bits : goal.returns-in-AllTrue-clause-bits
returns-in-AllTrue-clause-bits c =
    let made = c.write_run.new.bitmap in
    let len = c.in-AllTrue.len in
    let is : c.args.mask.now ≡ AllTrue len = c.in-AllTrue.is in
    subst (λ m. bits_in made (mask_len m) ≡ mask_bits m) (sym is) (bits_alike made len true c.write_run.ensures.bits)

pub returns-in-AllFalse-clause-bits : goal.returns-in-AllFalse-clause-bits
returns-in-AllFalse-clause-bits c =
    let made = c.write_run-in-AllFalse.new.bitmap in
    let len = c.in-AllFalse.len in
    let is : c.args.mask.now ≡ AllFalse len = c.in-AllFalse.is in
    subst (λ m. bits_in made (mask_len m) ≡ mask_bits m) (sym is) (bits_alike made len false c.write_run-in-AllFalse.ensures.bits)

pub returns-in-Values-clause-bits : goal.returns-in-Values-clause-bits
returns-in-Values-clause-bits c =
    let made = c.write_bits.new.bitmap in
    let bits = c.in-Values.bits in
    let is : c.args.mask.now ≡ Values bits = c.in-Values.is in
    subst (λ m. bits_in made (mask_len m) ≡ mask_bits m) (sym is) (bits_read made bits (λ i _. c.write_bits.ensures i))
