use Rattle.std.proofs.Common.{◌≡◌, ◌+◌, ◌/◌, ◌∙◌, ℕ, ap, arith, length, map, option_map, unwrap_or}
use Rattle.fl_patches.specs.PatchMaps.{patched_in}
use Rattle.fl_bitpacking.specs.Blocks.{blocks_of, value_at}
use Rattle.fl_bitpacking.specs.BlockSums.{plus_block_reference}
use Rattle.fl_bitpacking.specs.Parts.{parts_of}
use Rattle.fl_bitpacking.proofs.BlockSums.{stored_by_type}
use Rattle.fl_bitpacking.proofs.ReadItems.{decoded_shown}
use Rattle.fl_bitpacking.proofs.bitpack_decompress.read_into.read_items.Goals as goal

pub returns-clause-items : goal.returns-clause-items
returns-clause-items g c =
    let value = g.T.Number.value in
    let parts = parts_of c.args.column.now in
    let blocks = blocks_of c.args.widths in
    let start = c.args.start in
    let item = plus_block_reference g.T.NativePType.PTYPE (map value c.args.references.now) in
    let kept = c.read_into.auto.items in
    decoded_shown item parts blocks (value_at value c.write_patches_from.new.items) start (length c.args.items.now) c.requires.range
    (λ i h. (let place : parts.offset + start + i ≡ parts.offset + (start + i) = omega arith in
    c.write_patches_from.ensures i (omega arith)
    ∙ (ap (λ (p : ℕ). unwrap_or (option_map (item (p / 1024)) (patched_in parts.patches (start + i))) (value_at value c.read_into.new.items i)) place
    ∙ ap (λ z. unwrap_or (option_map (item ((parts.offset + (start + i)) / 1024)) (patched_in parts.patches (start + i))) z) ((rw c.over-reader.ensures at (c.read_into.ensures.items i h)) ∙ stored_by_type item g.T.NativePType.PTYPE parts blocks (start + i) c.requires.typed))))
