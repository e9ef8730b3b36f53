-- Deltas of an array, block by block.
use Rattle.std.proofs.Common.{◌≡◌, ℕ, ℤ, pos, ◌+◌, ◌*◌, ◌<◌, List, [], get_or, refl, ap, ◌∙◌, arith}
use Rattle.fastlanes.specs.Layout as layout
use Rattle.fl_types.specs.declared.dtype.PType.{PType}
use Rattle.fl_types.specs.declared.dtype.PType.TheVariants.{U8, U16, U32, U64, I8, I16, I32, I64}
use Rattle.fl_column.specs.Columns.{PrimitiveParts}
use Rattle.fl_codec.specs.Chunks.{chunk}
use Rattle.fl_codec.specs.Deltas.{delta_of}
use Rattle.fl_codec.specs.Parts.{compress_deltas}
use Rattle.fl_codec.proofs.DeltaLeasts.{deltas_fit}
use Rattle.fl_codec.proofs.DeltaRoundTrips.{items_fit}
use Rattle.fl_codec.proofs.Tables.{get_or-between}
use Rattle.fl_statistics.specs.Differences.{deltas_of, less_references}
use Rattle.fl_statistics.proofs.Differences.{less_none}

-- one of a block that is written
pub chunk_written : (slots made : List ℤ) (block q : ℕ) → made ≡ chunk block slots → q < 1024 → get_or made q (pos 0) ≡ get_or slots (1024 * block + q) (pos 0)
chunk_written slots made block q is h = ap (λ xs. get_or xs q (pos 0)) is ∙ get_or-between slots (1024 * block) (1024 * (block + 1)) q (pos 0) (omega arith)

-- less 0 they are themselves
pub less_zero : (p : PrimitiveParts) → less_references p.ptype (pos 0) [] (deltas_of p) ≡ deltas_of p
less_zero p = less_none p.ptype (deltas_of p) (items_fit p.ptype (compress_deltas p).1.validity (compress_deltas p).1.slots refl (deltas_fit p))

-- the deltas of row 0 are 0
pub first_row : (t : PType) (item : ℕ → ℤ) (j : ℕ) → delta_of t item j 0 ≡ pos 0
unfolding delta_of layout.row_of
first_row U8 item j = refl
first_row U16 item j = refl
first_row U32 item j = refl
first_row U64 item j = refl
first_row I8 item j = refl
first_row I16 item j = refl
first_row I32 item j = refl
first_row I64 item j = refl
