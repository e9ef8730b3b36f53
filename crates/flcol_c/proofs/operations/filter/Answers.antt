use Rattle.std.proofs.Common.{◌≡◌, ◌∙◌, length, ap, sym}
use Rattle.std.proofs.lemmas.List.FromFn.{length-map-range_with_len}
use Rattle.fl_column.specs.Bitmaps.{bit_in, bits_in}
use Rattle.flcol_c.proofs.operations.filter.Goals as goal

pub filter-requires : goal.filter-requires
filter-requires c =
    let len = c.len-len.result in
    let mask = c.args.mask.now in
    let made = c.in_ok-bits_of.ensures in
    let same : bits_in mask len ≡ c.in_ok-bits_of.field-0 = cc in
    ap length (sym same) ∙ (length-map-range_with_len (bit_in mask) 0 len ∙ c.len-len.ensures)
