-- Widths by which the blocks of an array are read.
use Rattle.std.proofs.Common.{◌≡◌, ◌∙◌, Bor, length, true, None, refl, ap, sym, arith}
use Rattle.std.specs.Prelude.{unsigned_abs}
use Rattle.std.proofs.lemmas.List.{length-map}
use Rattle.fl_types.specs.Types.{is_index_type}
use Rattle.fl_column.specs.Columns.{Column, ConstantParts, PrimitiveParts, column_of_constant, column_of_primitive, numbers_of}
use Rattle.fl_patches.specs.declared.widths.Widths.{Widths}
use Rattle.fl_patches.specs.declared.widths.Widths.TheVariants.{Global, Boundaries, PerBlock}
use Rattle.fl_bitpacking.specs.Blocks.{blocks_of, boundary_blocks, global_blocks}
use Rattle.fl_bitpacking.specs.Columns.{column_of_packed}
use Rattle.fl_bitpacking.proofs.BoundaryLaws.{length-numbers_of}
use Rattle.fl_bitpacking.proofs.EqualBoundaries.{equal_blocks}
use Rattle.fl_bitpacking.proofs.IndexNumbers.{numbers_of_index}
use Rattle.fl_array.specs.BitPackedArrays.{BitPackedArrayParts, BlockBoundaries, blocks_of_widths, refusal_of_bitpacked, tree_of_bitpacked}
use Rattle.fl_array.specs.BlockWidths.{AreBlockWidths, AreReadBy}
use Rattle.fl_array.specs.PrimitiveCows.{primitive_of_cow}
use Rattle.fl_array.specs.Trees.{Tree, column}
use Rattle.fl_array.specs.declared.array.primitive_cow.PrimitiveCow.{PrimitiveCow}
use Rattle.fl_array.specs.declared.bitpacking.block_widths.BlockWidths.TheVariants as held
use Rattle.fl_array.proofs.BitPackedLaws.{bitpacked_column}
use Rattle.fl_array.proofs.BlockedLaws.{blocked_by, blocks_read, numbers_read}

-- the column, by the widths
pub read_column : (a : BitPackedArrayParts) (widths : Widths) → AreReadBy a widths → column_of_packed a.parts (blocks_of widths) ≡ column (tree_of_bitpacked a)
read_column a widths of = ap (column_of_packed a.parts) of.same ∙ sym (bitpacked_column a)

-- ---- one width

-- ---- boundaries that are all equal
pub held_constant : (a : BitPackedArrayParts) (b : Tree) (c : ConstantParts) → BlockBoundaries b ≡ a.widths → column b ≡ column_of_constant c → AreBlockWidths a (held.Global 0)
held_constant a b c same e (Global w) view =
    let equal : global_blocks 0 ≡ boundary_blocks (numbers_of (column b)) = sym (equal_blocks c) ∙ ap (λ (x : Column). boundary_blocks (numbers_of x)) (sym e) in
    rw view (record {
      sound = (omega arith, omega arith);
      same = equal ∙ ap blocks_of_widths same;
      own = λ blocked. refl;
    })
held_constant a b c same e (Boundaries boundaries) view = absurd view
held_constant a b c same e (PerBlock widths) view = absurd view

-- ---- boundaries
-- as many boundaries as items are stored
stored_boundaries : (p : PrimitiveParts) → is_index_type (column_of_primitive p).dtype ≡ true → length p.slots ≡ length (column_of_primitive p).items
stored_boundaries p typed = sym (length-map p.slots unsigned_abs) ∙ (ap length (sym (numbers_of_index p typed)) ∙ length-numbers_of (column_of_primitive p))

plain_read : (a : BitPackedArrayParts) (b : Tree) (boundaries : Bor PrimitiveParts) → refusal_of_bitpacked a ≡ None → BlockBoundaries b ≡ a.widths → column_of_primitive boundaries.now ≡ column b → AreReadBy a (Boundaries boundaries)
plain_read a b boundaries h same e =
    let blocked = blocked_by a b h same in
    let typed : is_index_type (column_of_primitive boundaries.now).dtype ≡ true = ap (λ (c : Column). is_index_type c.dtype) e ∙ blocked.typed in
    record {
      sound = (stored_boundaries boundaries.now typed ∙ (ap (λ (c : Column). length c.items) e ∙ blocked.count), blocks_read a b boundaries.now h same e);
      same = ap boundary_blocks (numbers_read a b boundaries.now h same e) ∙ ap blocks_of_widths same;
      own = λ it. refl;
    }

pub held_boundaries : (a : BitPackedArrayParts) (b : Tree) (cow : PrimitiveCow) → refusal_of_bitpacked a ≡ None → BlockBoundaries b ≡ a.widths → column_of_primitive (primitive_of_cow cow) ≡ column b → AreBlockWidths a (held.Boundaries cow)
held_boundaries a b cow h same e (Global w) view = absurd view
held_boundaries a b cow h same e (Boundaries boundaries) view = plain_read a b boundaries h same (ap column_of_primitive view ∙ e)
held_boundaries a b cow h same e (PerBlock widths) view = absurd view
