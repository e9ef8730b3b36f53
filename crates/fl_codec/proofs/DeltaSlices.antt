-- What is known of bases and deltas that make a column, and their slices.
use Rattle.std.proofs.Common.{◌≡◌, ◌==◌, ◌&&◌, ◌||◌, ◌+◌, ◌*◌, ◌-◌, ◌/◌, ◌%◌, ◌<◌, ◌≤◌, ℕ, ℤ, pos, zero, suc, Bool, true, false, not, List, length, get_or, nat_le, nat_lt, Option, Some, None, refl, ap, sym, ◌∙◌, if◌then◌else◌, arith}
use Rattle.std.proofs.lemmas.Bool.{eqb-true, leb-false, ltb-false, lt-leb, le-ltb, eq-eqb}
use Rattle.fastlanes.specs.Layout.{place, segment_lane, segment_row}
use Rattle.fastlanes.proofs.Bijection.{segment_placed}
use Rattle.fastlanes.proofs.Places.{place_below}
use Rattle.fl_types.specs.declared.error.FastLanesError.{FastLanesError}
use Rattle.fl_types.specs.declared.error.FastLanesError.TheVariants.{NotInteger, OffsetTooLarge, ValidityLength, TypeMismatch, ChildNullable, ChildLength, RangeBeyondChild}
use Rattle.fl_types.specs.declared.dtype.PType.{PType}
use Rattle.fl_types.specs.declared.dtype.DType.{DType}
use Rattle.fl_types.specs.declared.dtype.DType.TheVariants as dtypes
use Rattle.fl_types.specs.declared.validity.Validity.{Validity}
use Rattle.fl_types.specs.declared.validity.Validity.TheVariants as valid
use Rattle.fl_types.specs.Bits.{between}
use Rattle.fl_types.specs.Integers.{bits_of_type, lanes_of_type}
use Rattle.fl_types.specs.Types.{integer_type, is_integer, is_nullable, same_type}
use Rattle.fl_types.specs.Validities.{covers, is_valid_at, nullability_of, validity_between}
use Rattle.fl_types.proofs.BitLists.{same_tables}
use Rattle.fl_column.specs.Columns.{Column}
use Rattle.fl_column.specs.Operations.{slice_of}
use Rattle.fl_column.proofs.ItemLaws.{length-between, nullability_of-between}
use Rattle.fl_column.proofs.ListLaws.{and_first, and_second}
use Rattle.fl_codec.proofs.Tables.{get_or-between}
use Rattle.fl_codec.specs.Deltas.{block_integer, delta_column, delta_integer, lane_sum}
use Rattle.fl_codec.proofs.DeltaRoundTrips.{width_of}
use Rattle.fl_codec.specs.DeltaRefusals.{delta_refusal, lanes_of_dtype}
use Rattle.fl_codec.specs.ChunkSlices.{end_chunk, first_chunk}
use Rattle.fl_codec.proofs.ColumnParts.{valid-between}
use Rattle.fl_codec.proofs.FirstRefusals.{same_ptype_is}
use Rattle.fl_codec.proofs.Tables.{between-table}

all_passed : (a b c d e f g : Bool) (h i j k l m n : FastLanesError) → (if a then Some h else if b then Some i else if c then Some j else if not d then Some k else if not e then Some l else if not f then Some m else if not g then Some n else None) ≡ None
    → (a ≡ false) × (b ≡ false) × (c ≡ false) × (d ≡ true) × (e ≡ true) × (f ≡ true) × (g ≡ true)
all_passed true b c d e f g h i j k l m n r = cc
all_passed false true c d e f g h i j k l m n r = cc
all_passed false false true d e f g h i j k l m n r = cc
all_passed false false false false e f g h i j k l m n r = cc
all_passed false false false true false f g h i j k l m n r = cc
all_passed false false false true true false g h i j k l m n r = cc
all_passed false false false true true true false h i j k l m n r = cc
all_passed false false false true true true true h i j k l m n r = (refl, refl, refl, refl, refl, refl, refl)

neither_one : (a b : Bool) → (a || b) ≡ false → (a ≡ false) × (b ≡ false)
neither_one false false h = (refl, refl)
neither_one true b h = cc
neither_one false true h = cc

-- what is known of bases and deltas that make a column
pub record AreDeltas (bases deltas : Column) (validity : Validity) (offset len : ℕ) : Type 0 where
  pub low : offset < 1024
  pub range : offset + len ≤ length deltas.items
  pub non_nullable_bases : is_nullable bases.dtype ≡ false
  pub non_nullable_deltas : is_nullable deltas.dtype ≡ false
  pub same : same_type bases.dtype deltas.dtype ≡ true
  pub integer : is_integer bases.dtype ≡ true
  pub covered : covers validity len ≡ true
  pub whole : length deltas.items % 1024 ≡ 0
  pub count : length bases.items ≡ lanes_of_dtype bases.dtype * (length deltas.items / 1024)

pub deltas : (bases ds : Column) (validity : Validity) (offset len : ℕ) → delta_refusal bases ds validity offset len ≡ None → AreDeltas bases ds validity offset len
deltas bases ds validity offset len h =
    let total = length ds.items in
    let sizes = (total % 1024 == 0) && (length bases.items == lanes_of_dtype bases.dtype * (total / 1024)) in
    let all = all_passed (nat_le 1024 offset) (nat_lt total (offset + len)) (is_nullable bases.dtype || is_nullable ds.dtype) (same_type bases.dtype ds.dtype) (is_integer bases.dtype) (covers validity len) sizes OffsetTooLarge RangeBeyondChild ChildNullable TypeMismatch NotInteger ValidityLength ChildLength h in
    let non_nullable = neither_one (is_nullable bases.dtype) (is_nullable ds.dtype) all.2 in
    record {
      low = leb-false 1024 offset all.0;
      range = ltb-false total (offset + len) all.1;
      non_nullable_bases = non_nullable.0;
      non_nullable_deltas = non_nullable.1;
      same = all.3;
      integer = all.4;
      covered = all.5;
      whole = eqb-true (total % 1024) 0 (and_first (total % 1024 == 0) (length bases.items == lanes_of_dtype bases.dtype * (total / 1024)) all.6);
      count = eqb-true (length bases.items) (lanes_of_dtype bases.dtype * (total / 1024)) (and_second (total % 1024 == 0) (length bases.items == lanes_of_dtype bases.dtype * (total / 1024)) all.6);
    }

pub no_delta_refusal : (bases ds : Column) (validity : Validity) (offset len : ℕ) → AreDeltas bases ds validity offset len → delta_refusal bases ds validity offset len ≡ None
no_delta_refusal bases ds validity offset len s =
    rw (lt-leb 1024 offset s.low, le-ltb (length ds.items) (offset + len) s.range, s.non_nullable_bases, s.non_nullable_deltas, s.same, s.integer, s.covered, eq-eqb (length ds.items % 1024) 0 s.whole, eq-eqb (length bases.items) (lanes_of_dtype bases.dtype * (length ds.items / 1024)) s.count) refl

-- the deltas are of the type of the bases
pub same_integers : (d e : DType) → same_type d e ≡ true → is_integer d ≡ true → integer_type e ≡ integer_type d
same_integers (dtypes.Primitive p m) (dtypes.Primitive q n) h i = ap (λ (t : PType). Some t) (sym (same_ptype_is p q h))
same_integers (dtypes.Primitive p m) (dtypes.Bool n) h i = cc
same_integers (dtypes.Bool m) e h i = cc

-- ---- slices
lane_sum_same : (delta other : ℕ → ℤ) (j k l n : ℕ) → ((r : ℕ) → r < n → delta (1024 * j + place r l) ≡ other (1024 * k + place r l)) → lane_sum delta j l n ≡ lane_sum other k l n
unfolding lane_sum
lane_sum_same delta other j k l zero same = refl
lane_sum_same delta other j k l (suc n) same = rw (lane_sum_same delta other j k l n (λ r h. same r (omega arith)), same n (omega arith)) refl

-- a block that is cut out has the same integers
block_same : (ptype : PType) (bases ds : List ℤ) (first last j q : ℕ) → q < 1024 → first + j < last
    → block_integer ptype (λ k. get_or (between (lanes_of_type ptype * first) (lanes_of_type ptype * last) bases) k (pos 0)) (λ k. get_or (between (1024 * first) (1024 * last) ds) k (pos 0)) j q
    ≡ block_integer ptype (λ k. get_or bases k (pos 0)) (λ k. get_or ds k (pos 0)) (first + j) q
unfolding block_integer
block_same ptype bases ds first last j q low within =
    let T = bits_of_type ptype in
    let lanes = lanes_of_type ptype in
    let l = segment_lane T q in
    let at = segment_placed T lanes q (width_of ptype) low in
    let lane : l < lanes = at.2 in
    let row : segment_row T q < T = at.1 in
    let more = last - (first + j + 1) in
    let whole : first + j + 1 + more ≡ last = omega arith in
    let sum : lanes * (first + j + 1 + more) ≡ lanes * first + j * lanes + lanes + lanes * more = grind arith in
    let to_last : lanes * last ≡ lanes * first + j * lanes + lanes + lanes * more = ap (λ n. lanes * n) (sym whole) ∙ sum in
    let place_of : lanes * first + (j * lanes + l) ≡ (first + j) * lanes + l = grind arith in
    let base : get_or (between (lanes * first) (lanes * last) bases) (j * lanes + l) (pos 0) ≡ get_or bases ((first + j) * lanes + l) (pos 0) = get_or-between bases (lanes * first) (lanes * last) (j * lanes + l) (pos 0) (omega arith) ∙ ap (λ n. get_or bases n (pos 0)) place_of in
    let sums = lane_sum_same (λ k. get_or (between (1024 * first) (1024 * last) ds) k (pos 0)) (λ k. get_or ds k (pos 0)) j (first + j) l (segment_row T q + 1) (λ r h.
    let here = place_below T lanes r l (width_of ptype) (omega arith) lane in
    let small : place r l < 1024 = here.2 in
    let there : 1024 * first + (1024 * j + place r l) ≡ 1024 * (first + j) + place r l = omega arith in
    get_or-between ds (1024 * first) (1024 * last) (1024 * j + place r l) (pos 0) (omega arith) ∙ ap (λ n. get_or ds n (pos 0)) there) in
    rw (base, sums) refl

-- the column of the blocks that a slice keeps
pub delta_slice : (ptype : PType) (bases ds : List ℤ) (v : Validity) (offset len start end : ℕ) → start ≤ end → end ≤ len
    → delta_column ptype (between (lanes_of_type ptype * first_chunk offset start) (lanes_of_type ptype * end_chunk offset end) bases) (between (1024 * first_chunk offset start) (1024 * end_chunk offset end) ds) (validity_between start end v) ((offset + start) % 1024) (end - start)
    ≡ slice_of start end (delta_column ptype bases ds v offset len)
delta_slice ptype bases ds v offset len start end order range =
    let first = first_chunk offset start in
    let last = end_chunk offset end in
    let bases_kept = between (lanes_of_type ptype * first) (lanes_of_type ptype * last) bases in
    let kept = between (1024 * first) (1024 * last) ds in
    let item : ℕ → Option ℤ = λ i. if is_valid_at v i then Some (delta_integer ptype bases ds (offset + i)) else None in
    let later : ℕ → Option ℤ = λ i. if is_valid_at (validity_between start end v) i then Some (delta_integer ptype bases_kept kept ((offset + start) % 1024 + i)) else None in
    let part = between-table item len start end None order range in
    let same = same_tables later (λ i. item (start + i)) (end - start) (λ i h.
    let j = ((offset + start) % 1024 + i) / 1024 in
    let q = ((offset + start) % 1024 + i) % 1024 in
    let block : first + j ≡ (offset + (start + i)) / 1024 = omega arith in
    let place_in : q ≡ (offset + (start + i)) % 1024 = omega arith in
    let integer = block_same ptype bases ds first last j q (omega arith) (omega arith) in
    rw (valid-between v start end i h, integer, block, place_in) refl) in
    rw (nullability_of-between, part) (ap (λ (xs : List (Option ℤ)). record { dtype = dtypes.Primitive ptype (nullability_of v); items = xs }) same)

-- ---- what a slice keeps
times_more : (m a b : ℕ) → a ≤ b → m * a ≤ m * b
times_more m a b h =
    let more = b - a in
    let whole : a + more ≡ b = omega arith in
    let sum : m * (a + more) ≡ m * a + m * more = grind arith in
    let all : m * b ≡ m * a + m * more = ap (λ n. m * n) (sym whole) ∙ sum in
    omega arith

pub kept_in_deltas : (offset len total end : ℕ) → offset + len ≤ total → total % 1024 ≡ 0 → end ≤ len → end_chunk offset end ≤ total / 1024
kept_in_deltas offset len total end a b c = omega arith

pub kept_bases : (bases ds : Column) (validity : Validity) (offset len end : ℕ) → AreDeltas bases ds validity offset len → end ≤ len → lanes_of_dtype bases.dtype * end_chunk offset end ≤ length bases.items
kept_bases bases ds validity offset len end s h =
    let range = s.range in
    let count = s.count in
    let within = kept_in_deltas offset len (length ds.items) end s.range s.whole h in
    let more = times_more (lanes_of_dtype bases.dtype) (end_chunk offset end) (length ds.items / 1024) within in
    omega arith

pub covers_part : (v : Validity) (len start end : ℕ) → covers v len ≡ true → start ≤ end → end ≤ len → covers (validity_between start end v) (end - start) ≡ true
covers_part valid.NonNullable len start end h o r = refl
covers_part valid.AllValid len start end h o r = refl
covers_part valid.AllInvalid len start end h o r = refl
covers_part (valid.Array bits) len start end h o r = let long = eqb-true (length bits) len h in eq-eqb _ (end - start) (length-between bits start end o (omega arith))

pub sliced_deltas : (bases ds : Column) (validity : Validity) (offset len start end : ℕ) → AreDeltas bases ds validity offset len → start ≤ end → end ≤ len
    → AreDeltas (slice_of (lanes_of_dtype bases.dtype * first_chunk offset start) (lanes_of_dtype bases.dtype * end_chunk offset end) bases) (slice_of (1024 * first_chunk offset start) (1024 * end_chunk offset end) ds) (validity_between start end validity) ((offset + start) % 1024) (end - start)
sliced_deltas bases ds validity offset len start end s o r =
    let m = lanes_of_dtype bases.dtype in
    let first = first_chunk offset start in
    let last = end_chunk offset end in
    let range = s.range in
    let whole = s.whole in
    let within = kept_in_deltas offset len (length ds.items) end s.range s.whole r in
    let order : first ≤ last = omega arith in
    let room = kept_bases bases ds validity offset len end s r in
    let long = length-between ds.items (1024 * first) (1024 * last) (omega arith) (omega arith) in
    let count = length-between bases.items (m * first) (m * last) (times_more m first last order) room in
    let blocks : (1024 * last - 1024 * first) / 1024 ≡ last - first = omega arith in
    let sum : m * (first + (last - first)) ≡ m * first + m * (last - first) = grind arith in
    let all : m * last ≡ m * first + m * (last - first) = let e : first + (last - first) ≡ last = omega arith in ap (λ n. m * n) (sym e) ∙ sum in
    record {
      low = omega arith;
      range = rw long (omega arith);
      non_nullable_bases = s.non_nullable_bases;
      non_nullable_deltas = s.non_nullable_deltas;
      same = s.same;
      integer = s.integer;
      covered = covers_part validity len start end s.covered o r;
      whole = rw long (omega arith);
      count = rw (long, blocks) (count ∙ (omega arith));
    }
