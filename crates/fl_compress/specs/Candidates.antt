-- The schemes among which the smallest is sought, in their order.
use Rattle.std.specs.Prelude.{◌-◌, ◌&&◌, ℕ, zero, suc, Bool, true, List, [], ◌∷◌, ◌++◌, map, flat_map, nat_lt, if◌then◌else◌}
use Rattle.fl_codec.specs.declared.for_.ItemOrder.{ItemOrder}
use Rattle.fl_codec.specs.declared.for_.ItemOrder.TheVariants.{Natural, Signed}
use Rattle.fl_encode.specs.declared.scheme.Packing.TheVariants.{BestWidth, BestWidths}
use Rattle.fl_encode.specs.Shapes.{BitPacked, Constant, Delta, Dictionary, FoR, FoRChunked, Primitive, RLE, Runs, RunValues, Shape}
use Rattle.fl_compress.specs.declared.limits.Limits.{Limits}

-- these schemes, where they are allowed
abbrev pub where_allowed : Bool → List Shape → List Shape
where_allowed allowed schemes = if allowed then schemes else []

-- an encoding is allowed, and there is a level left for it
abbrev pub has_level : Bool → ℕ → Bool
has_level allowed depth = allowed && nat_lt 0 depth

-- plain, constant, and bit-packed at the best width or the best widths
unfoldable pub packed_schemes : Limits → ℕ → List Shape
packed_schemes limits depth =
    Primitive ∷ (where_allowed limits.constant (Constant ∷ []) ++ where_allowed (has_level limits.bitpacked depth) (BitPacked BestWidth ∷ BitPacked BestWidths ∷ []))

-- one reference, which is the least item by an order, over each of these
abbrev pub over_one_reference : ItemOrder → List Shape → List Shape
over_one_reference order children = map (FoR order) children

-- a reference for each chunk, by an order, over each two of these
abbrev pub over_chunk_references : ItemOrder → List Shape → List Shape
over_chunk_references order children = flat_map (λ encoded. map (FoRChunked order encoded) children) children

-- frames of reference over these, by either order
abbrev pub over_frames : List Shape → List Shape
over_frames children = over_one_reference Natural children ++ (over_chunk_references Natural children ++ (over_one_reference Signed children ++ over_chunk_references Signed children))

-- those, and frames of reference whose children are packed
unfoldable pub framed_schemes : Limits → ℕ → List Shape
framed_schemes limits depth = packed_schemes limits depth ++ where_allowed (has_level limits.for_ depth) (over_frames (packed_schemes limits (depth - 1)))

-- deltas over each of these bases and each of these deltas
abbrev pub over_deltas : List Shape → List Shape → List Shape
over_deltas bases deltas = flat_map (λ b. map (Delta b) deltas) bases

-- framed schemes, and deltas over framed deltas, and over bases that are deltas in turn, at most this many in one another
unfoldable pub delta_schemes : ℕ → Limits → ℕ → List Shape
delta_schemes zero limits depth = framed_schemes limits depth
delta_schemes (suc nested) limits depth =
    framed_schemes limits depth ++ where_allowed (has_level limits.delta depth) (over_deltas (delta_schemes nested limits (depth - 1)) (framed_schemes limits (depth - 1)))

-- runs or dictionaries over each of these values, each of these indices and each of these offsets
abbrev pub over_runs : RunValues → List Shape → List Shape → List Shape → List Shape
over_runs run_values values indices offsets = flat_map (λ v. flat_map (λ i. map (RLE run_values v i) offsets) indices) values

-- runs or dictionaries, where they are allowed, whose values and indices are deltas or framed, and whose offsets are framed
unfoldable pub run_schemes : RunValues → Bool → Limits → ℕ → List Shape
run_schemes run_values allowed limits depth =
    let parts = delta_schemes 2 limits (depth - 1) in
    where_allowed (has_level allowed depth) (over_runs run_values parts parts (framed_schemes limits (depth - 1)))

-- framed schemes, deltas, runs and dictionaries
unfoldable pub candidates : Limits → List Shape
candidates limits = delta_schemes 2 limits limits.depth ++ (run_schemes Runs limits.rle limits limits.depth ++ run_schemes Dictionary limits.dict limits limits.depth)

-- three levels of all encodings
abbrev pub default_limits : Limits
default_limits = record { depth = 3; constant = true; bitpacked = true; for_ = true; delta = true; rle = true; dict = true }
