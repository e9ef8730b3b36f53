use Rattle.std.proofs.Common.{◌≡◌, ◌&&◌, ℕ, ◌+◌, ◌*◌, ◌<◌, false, length, map, take}
use Rattle.std.specs.List.{list_any}
use Rattle.fl_types.specs.Integers.{bits_of_type, lanes_of_type}
use Rattle.fl_types.specs.Validities.{items_of}
use Rattle.fastlanes.specs.Layout.{Packed, word_at}
use Rattle.fl_patches.specs.Exceptions.{exceptions_of, is_negative}
use Rattle.fl_patches.specs.PatchParts.{HasBlocks}
use Rattle.fl_patches.specs.Widths.{width_at}
use Rattle.fl_bitpacking.specs.Blocks.{bytes_of_block, pattern_in, blocks_of}
use Rattle.fl_bitpacking.proofs.bitpack_compress.patched_packing.pack_blocks.Given as goal

-- the blocks so far, their exceptions, and that none of their items is negative where that is refused
abbrev pub invariant-loop-j : goal.invariant-loop-j
invariant-loop-j g l =
    let t = g.T.NativePType.PTYPE in
    let values = map g.T.Number.value l.items in
    let items = items_of l.validity values in record {
      long : length l.bytes.items ≡ (blocks_of l.widths).start l.j;
      each : (k : ℕ) → k < l.j → Packed (bits_of_type t) (lanes_of_type t) ((blocks_of l.widths).width k) (λ q. pattern_in t values (1024 * k + q)) (word_at (bits_of_type t) (bytes_of_block (blocks_of l.widths) l.bytes.items k));
      exceptions : HasBlocks l.exceptions.found.places.items (map g.T.Number.value l.exceptions.found.values.items) l.exceptions.offsets.items (exceptions_of t (width_at l.widths) items) l.j;
      none : (l.refuses_negative && list_any is_negative (take (1024 * l.j) items)) ≡ false;
    }
