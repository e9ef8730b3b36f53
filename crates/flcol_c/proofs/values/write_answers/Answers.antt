use Rattle.std.proofs.Common.{rules, ◌≡◌, length}
use Rattle.fl_column.specs.Bitmaps.{bits_in}
use Rattle.flcol_c.proofs.BitmapLaws.{bits_read}
use Rattle.flcol_c.proofs.ValidityLaws.{items_marked}
use Rattle.flcol_c.proofs.values.write_answers.Goals as goal

pub returns-clause-items : goal.returns-clause-items
returns-clause-items c =
    let a = c.args.answers.now in
    let written : bits_in c.write_bits.new.bitmap (length a.bits) ≡ a.bits =
    bits_read c.write_bits.new.bitmap a.bits (λ i h. let told = c.write_bits.ensures i in search rules) in
    let marked = items_marked a.validity a.bits c.write_validity.new.bitmap c.validity-valid.ensures.covers (λ i h. let told = c.write_validity.ensures.valid i in search rules) in
    rw written marked
