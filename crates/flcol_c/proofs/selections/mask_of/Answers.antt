use Rattle.std.proofs.Common.{◌≡◌, ◌∙◌, length, ap, sym}
use Rattle.std.proofs.lemmas.List.FromFn.{length-map-range_with_len}
use Rattle.fl_column.specs.Bitmaps.{bit_in, bits_in}
use Rattle.flcol_c.proofs.selections.mask_of.Goals as goal

pub returns-clause-long : goal.returns-clause-long
returns-clause-long c =
    let len = c.args.len in
    let bitmap = c.args.bitmap.now in
    let made = c.in_ok-bits_of.ensures in
    let same : bits_in bitmap len ≡ c.in_ok-bits_of.field-0 = cc in
    ap length (sym same) ∙ length-map-range_with_len (bit_in bitmap) 0 len
