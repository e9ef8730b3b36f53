use Rattle.std.proofs.Common.{◌+◌, ◌∙◌, ap, sym, arith, map, unwrap_or}
use Rattle.fl_patches.specs.PatchMaps.{patched_in}
use Rattle.fl_patches.proofs.Parts.{ok_same}
use Rattle.fl_column.specs.Columns.{new_primitive}
use Rattle.fl_bitpacking.specs.Blocks.{item_of_blocks, blocks_of}
use Rattle.fl_bitpacking.specs.Parts.{parts_of}
use Rattle.fl_bitpacking.proofs.ColumnLaws.{column_made}
use Rattle.fl_bitpacking.proofs.bitpack_decompress.unpack_typed.Goals as goal

pub returns-clause-column : goal.returns-clause-column
returns-clause-column g c =
    let value = g.T.Number.value in
    let parts = parts_of c.args.column.now in
    let blocks = blocks_of c.args.widths in
    let items = c.with_values-items.result.items in
    let long = c.in_ok-values.ensures.long in
    let typed = sym c.requires.typed in
    let valid = ok_same _ _ c.in_ok-validity.ensures in
    column_made value parts blocks items c.new.result c.requires.fit (c.with_values-items.ensures.long ∙ long)
    (λ i h. c.with_values-items.ensures.items i (omega arith) ∙ ap (λ z. unwrap_or (patched_in parts.patches i) z) ((rw c.over-reader.ensures at (c.in_ok-values.ensures.items i h)) ∙ ap (λ t. item_of_blocks t blocks parts.packed (parts.offset + i)) typed))
    (c.new.ensures ∙ (ap (λ t. new_primitive t (map value items) c.in_ok-validity.validity) typed ∙ ap (λ v. new_primitive parts.ptype (map value items) v) valid))
