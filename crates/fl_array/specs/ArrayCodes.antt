-- Each encoded array has a number tree of its own: that of the array's tree.
use Rattle.std.specs.Prelude.{◌≡◌, refl, [], None}
use Rattle.std.specs.Coded.{Coded, code_by}
use Rattle.fl_types.specs.declared.dtype.PType.TheVariants.{U8}
use Rattle.fl_types.specs.declared.validity.Validity.TheVariants.{NonNullable}
use Rattle.fl_bitpacking.specs.Columns.{BitPackedParts}
use Rattle.fl_array.specs.Trees.{Tree, Delta, RLE, BitPackedGlobal, BitPackedBlocked, FoRGlobal, FoRChunked}
use Rattle.fl_array.specs.Codes.{coded_tree}
use Rattle.fl_array.specs.BitPackedArrays.{BitPackedArrayParts, BitWidthsParts, BlockBoundaries, GlobalWidth, bitpacked_tree, tree_of_bitpacked}
use Rattle.fl_array.specs.DeltaArrays.{DeltaArrayParts, tree_of_delta}
use Rattle.fl_array.specs.FoRArrays.{ChunkReferences, FoRArrayParts, FoRReferencesParts, GlobalReference, for_tree, tree_of_for}
use Rattle.fl_array.specs.RLEArrays.{RLEArrayParts, tree_of_rle}
use Rattle.fl_types.specs.declared.dtype.DType.TheVariants as dtypes
use Rattle.fl_types.specs.declared.dtype.Nullability.TheVariants as nullabilities

-- the bit-packed array that a tree is, and an empty one of any other tree
abbrev pub bitpacked_of_tree : Tree → BitPackedArrayParts
bitpacked_of_tree (BitPackedGlobal parts width) = record { parts = parts; widths = GlobalWidth width }
bitpacked_of_tree (BitPackedBlocked parts boundaries) = record { parts = parts; widths = BlockBoundaries boundaries }
bitpacked_of_tree other = record { parts = record { packed = []; ptype = U8; validity = NonNullable; patches = None; offset = 0; len = 0 }; widths = GlobalWidth 0 }

pub bitpacked_back : (parts : BitPackedParts) (widths : BitWidthsParts) → bitpacked_of_tree (bitpacked_tree parts widths) ≡ record { parts = parts; widths = widths }
bitpacked_back parts (GlobalWidth width) = refl
bitpacked_back parts (BlockBoundaries boundaries) = refl

-- bit-packed arrays as number trees
abbrev pub coded_bitpacked : Coded BitPackedArrayParts
coded_bitpacked = code_by Tree coded_tree tree_of_bitpacked bitpacked_of_tree (λ a. bitpacked_back a.parts a.widths)

-- the FoR array that a tree is, and one of a null reference of any other tree
abbrev pub for_of_tree : Tree → FoRArrayParts
for_of_tree (FoRGlobal encoded reference) = record { encoded = encoded; references = GlobalReference reference }
for_of_tree (FoRChunked encoded references offset) = record { encoded = encoded; references = ChunkReferences references offset }
for_of_tree other = record { encoded = other; references = GlobalReference (record { dtype = dtypes.Bool nullabilities.Nullable; value = None }) }

pub for_back : (encoded : Tree) (references : FoRReferencesParts) → for_of_tree (for_tree encoded references) ≡ record { encoded = encoded; references = references }
for_back encoded (GlobalReference reference) = refl
for_back encoded (ChunkReferences references offset) = refl

-- FoR arrays as number trees
abbrev pub coded_for : Coded FoRArrayParts
coded_for = code_by Tree coded_tree tree_of_for for_of_tree (λ a. for_back a.encoded a.references)

-- the delta array that a tree is, and one of no items of any other tree
abbrev pub delta_of_tree : Tree → DeltaArrayParts
delta_of_tree (Delta bases deltas parts) = record { bases = bases; deltas = deltas; parts = parts }
delta_of_tree other = record { bases = other; deltas = other; parts = record { validity = NonNullable; offset = 0; len = 0 } }

-- delta arrays as number trees
abbrev pub coded_delta : Coded DeltaArrayParts
coded_delta = code_by Tree coded_tree tree_of_delta delta_of_tree (λ _. refl)

-- the run-length encoded array that a tree is, and one of no items of any other tree
abbrev pub rle_of_tree : Tree → RLEArrayParts
rle_of_tree (RLE values indices offsets window) = record { values = values; indices = indices; offsets = offsets; window = window }
rle_of_tree other = record { values = other; indices = other; offsets = other; window = record { offset = 0; len = 0 } }

-- run-length encoded arrays as number trees
abbrev pub coded_rle : Coded RLEArrayParts
coded_rle = code_by Tree coded_tree tree_of_rle rle_of_tree (λ _. refl)
