-- Where items have the same order read as signed, wrapped references are the least items, and no array over them is smaller.
use Rattle.std.proofs.Common.{◌≡◌, ◌≢◌, ◌<◌, ◌≤◌, ℕ, ℤ, pos, negsuc, suc, ◌-◌, ◌^◌, ◌%◌, ◌==◌, ◌&&◌, Bool, true, false, cond, List, [], ◌∷◌, ◌++◌, length, map, find, int_le, nat_lt, Option, Some, None, IsTrue, refl, ap, sym, subst, ◌∙◌, inl, inr, lit≤, arith}
use Rattle.std.specs.Prelude.{flat_map, is_none, option_map, if◌then◌else◌}
use Rattle.std.specs.List.{All, list_all, range_with_len}
use Rattle.std.proofs.Math.Nat.{mod-eq_of_lt, pow-le-pow_right}
use Rattle.std.proofs.lemmas.Bool.{cases_lt, eq-eqb, le-ltb, lt-ltb}
use Rattle.std.proofs.lemmas.Bool.Decides.{nat_tests}
use Rattle.std.proofs.lemmas.List.{map-append}
use Rattle.std.proofs.lemmas.List.Elements.{All-nil, All-cons, All-drop, All-head, All-tail, All-take, All-weaker}
use Rattle.fl_types.specs.declared.dtype.PType.{PType}
use Rattle.fl_types.specs.declared.dtype.PType.TheVariants.{U8, U16, U32, U64, I8, I16, I32, I64}
use Rattle.fl_types.specs.Bits.{tabulate}
use Rattle.fl_types.specs.Integers.{bits_of_type, fits, is_unsigned, pattern_of, read_as}
use Rattle.fl_types.specs.Validities.{covers, items_of}
use Rattle.fl_types.proofs.Patterns.{read_pattern}
use Rattle.fl_column.proofs.ListLaws.{and_first, and_second}
use Rattle.fl_column.specs.Columns.{PrimitiveParts, option_all}
use Rattle.fl_patches.specs.Exceptions.{bit_count, bits_of_item, count_with_bits}
use Rattle.fl_patches.proofs.BitCounts.{bit_count_holds, bits_of_pattern, pattern_below, type_most}
use Rattle.fl_patches.proofs.Histograms.{count_cons}
use Rattle.fl_statistics.specs.declared.widths.BitStatistics.{BitStatistics}
use Rattle.fl_statistics.specs.BitStatistics.{bit_statistics}
use Rattle.fl_codec.specs.Chunks.{chunk, chunks_of}
use Rattle.fl_codec.specs.declared.for_.ItemOrder.TheVariants.{Natural, Signed}
use Rattle.fl_codec.specs.FoRColumns.{chunk_leasts, common_reference, least_by, reading, reference_of_chunk, valid_items}
use Rattle.fl_codec.specs.Parts.{FoRParts, Nulls, encode_chunked_by, encode_global_by, items_of_primitive, less_common, null_constant, reference_scalar, subtract_min}
use Rattle.fl_codec.proofs.DeltaRoundTrips.{items_fit}
use Rattle.fl_encode.specs.Shapes.{FoR, FoRChunked, Shape}
use Rattle.fl_compress.specs.Candidates.{over_chunk_references, over_one_reference}
use Rattle.fl_compress.specs.Cheapest.{cheaper, cheapest, priced}
use Rattle.fl_compress.specs.Choices.{or_frames}
use Rattle.fl_compress.specs.EncodedBytes.{encoded_bytes, over_reference, over_references}

-- ---- integers
-- the integer is the same, read as signed
abbrev IsSameSigned : PType → ℤ → Type 0
IsSameSigned t z = reading Signed t z ≡ z

signed_type : (t : PType) (z : ℤ) → is_unsigned t ≡ false → IsSameSigned t z
signed_type I8 z e = refl
signed_type I16 z e = refl
signed_type I32 z e = refl
signed_type I64 z e = refl
signed_type U8 z e = cc
signed_type U16 z e = cc
signed_type U32 z e = cc
signed_type U64 z e = cc

low_kept : (m half p : ℕ) → p < half → half ≤ m → cond (nat_lt (p % m) half) (pos (p % m)) (negsuc (m - suc (p % m))) ≡ pos p
low_kept m half p h l =
    let same : p % m ≡ p = mod-eq_of_lt (omega arith) in
    let low : nat_lt p half ≡ true = lt-ltb p half h in
    rw (same, low) refl

low_signed : (t : PType) (p : ℕ) → is_unsigned t ≡ true → p < 2 ^ (bits_of_type t - 1) → reading Signed t (read_as t p) ≡ read_as t p
low_signed U8 p e h = let same : p % 2 ^ 8 ≡ p = mod-eq_of_lt (omega arith) in rw same (low_kept (2 ^ 8) (2 ^ 7) p h (omega arith))
low_signed U16 p e h = let same : p % 2 ^ 16 ≡ p = mod-eq_of_lt (omega arith) in rw same (low_kept (2 ^ 16) (2 ^ 15) p h (omega arith))
low_signed U32 p e h = let same : p % 2 ^ 32 ≡ p = mod-eq_of_lt (omega arith) in rw same (low_kept (2 ^ 32) (2 ^ 31) p h (omega arith))
low_signed U64 p e h = let same : p % 2 ^ 64 ≡ p = mod-eq_of_lt (omega arith) in rw same (low_kept (2 ^ 64) (2 ^ 63) p h (omega arith))
low_signed I8 p e h = cc
low_signed I16 p e h = cc
low_signed I32 p e h = cc
low_signed I64 p e h = cc

-- an integer that has not all of the type's bits
narrow_signed : (t : PType) (z : ℤ) → is_unsigned t ≡ true → IsTrue (fits t z) → bit_count (pattern_of t z) ≢ bits_of_type t → IsSameSigned t z
narrow_signed t z e fit narrow =
    let p = pattern_of t z in
    let most = bits_of_pattern t z in
    let room : 2 ^ bits_of_type t ≤ 2 ^ 64 = pow-le-pow_right (lit≤ tt) (type_most t) in
    let below = pattern_below t z in
    let holds = bit_count_holds p (omega arith) in
    let few : bit_count p ≤ bits_of_type t - 1 = omega arith in
    let power : 2 ^ bit_count p ≤ 2 ^ (bits_of_type t - 1) = pow-le-pow_right (lit≤ tt) few in
    let low : p < 2 ^ (bits_of_type t - 1) = omega (arith, holds.0) in
    let same : read_as t p ≡ z = read_pattern t z fit in
    subst (λ y. reading Signed t y ≡ y) same (low_signed t p e low)

-- ---- items
-- the item is the same read as signed, if it is there
abbrev AreSameSigned : PType → Option ℤ → Type 0
AreSameSigned t item = (z : ℤ) → item ≡ Some z → IsSameSigned t z

all_signed : (t : PType) (items : List (Option ℤ)) → is_unsigned t ≡ false → All (AreSameSigned t) items
all_signed t [] e = All-nil (AreSameSigned t)
all_signed t (item ∷ items) e = All-cons (AreSameSigned t) item items (λ z is. signed_type t z e) (all_signed t items e)

all_narrow : (t : PType) (items : List (Option ℤ)) → is_unsigned t ≡ true → list_all (option_all (fits t)) items ≡ true → count_with_bits t items (bits_of_type t) ≡ 0 → All (AreSameSigned t) items
all_narrow t [] e fit none = All-nil (AreSameSigned t)
all_narrow t (item ∷ items) e fit none =
    let more = count_cons t item items (bits_of_type t) in
    let rest : count_with_bits t items (bits_of_type t) ≡ 0 = omega arith in
    let here : cond (bits_of_item t item == bits_of_type t) 1 0 ≡ 0 = omega arith in
    All-cons (AreSameSigned t) item items
    (λ z is. narrow_signed t z e (subst (λ o. IsTrue (option_all (fits t) o)) is (and_first (option_all (fits t) item) (list_all (option_all (fits t)) items) fit))
    (λ wide. not_one _ (eq-eqb (bits_of_item t item) (bits_of_type t) (ap (bits_of_item t) is ∙ wide)) here))
    (all_narrow t items e (and_second (option_all (fits t) item) (list_all (option_all (fits t)) items) fit) rest)
  where
    not_one : (b : Bool) → b ≡ true → ◌≡◌ {A = ℕ} (cond b 1 0) 0 → ⊥
    not_one b e f = cc

-- ---- least items
valid_same : (t : PType) (items : List (Option ℤ)) → All (AreSameSigned t) items → All (IsSameSigned t) (valid_items items)
valid_same t [] all = All-nil (IsSameSigned t)
valid_same t (None ∷ items) all = valid_same t items (All-tail (AreSameSigned t) None items all)
valid_same t (Some z ∷ items) all = All-cons (IsSameSigned t) z (valid_items items) (All-head (AreSameSigned t) (Some z) items all z refl) (valid_same t items (All-tail (AreSameSigned t) (Some z) items all))

tests_same : (read : ℤ → ℤ) (x : ℤ) (zs : List ℤ) → read x ≡ x → All (λ z. read z ≡ z) zs → list_all (λ y. int_le (read x) (read y)) zs ≡ list_all (int_le x) zs
tests_same read x [] e all = refl
tests_same read x (z ∷ zs) e all =
    let here : int_le (read x) (read z) ≡ int_le x z = ap (λ a. int_le a (read z)) e ∙ ap (int_le x) (All-head (λ y. read y ≡ y) z zs all) in
    ap (λ b. b && list_all (λ y. int_le (read x) (read y)) zs) here ∙ ap (λ b. int_le x z && b) (tests_same read x zs e (All-tail (λ y. read y ≡ y) z zs all))

find_alike : (p q : ℤ → Bool) (zs : List ℤ) → All (λ z. p z ≡ q z) zs → find p zs ≡ find q zs
find_alike p q [] all = refl
find_alike p q (z ∷ zs) all =
    let here = All-head (λ y. p y ≡ q y) z zs all in
    let rest = find_alike p q zs (All-tail (λ y. p y ≡ q y) z zs all) in
    rw (here, rest) refl

least_alike : (t : PType) (items : List (Option ℤ)) → All (AreSameSigned t) items → least_by (reading Signed t) items ≡ least_by (reading Natural t) items
least_alike t items all =
    let zs = valid_items items in
    let same = valid_same t items all in
    find_alike (λ z. list_all (λ x. int_le (reading Signed t z) (reading Signed t x)) zs) (λ z. list_all (int_le z) zs) zs
    (All-weaker (IsSameSigned t) (λ z. list_all (λ x. int_le (reading Signed t z) (reading Signed t x)) zs ≡ list_all (int_le z) zs) (λ z e. tests_same (reading Signed t) z zs e same) zs same)

map_alike : {A B : Type 0} (f g : A → B) (xs : List A) → ((x : A) → f x ≡ g x) → map f xs ≡ map g xs
map_alike f g [] each = refl
map_alike f g (x ∷ xs) each = ap (λ y. y ∷ map f xs) (each x) ∙ ap (λ ys. g x ∷ ys) (map_alike f g xs each)

leasts_alike : (t : PType) (items : List (Option ℤ)) → All (AreSameSigned t) items → chunk_leasts (reading Signed t) items ≡ chunk_leasts (reading Natural t) items
leasts_alike t items all =
    map_alike (λ k. least_by (reading Signed t) (chunk k items)) (λ k. least_by (reading Natural t) (chunk k items)) (range_with_len 0 (chunks_of (length items)))
    (λ k. least_alike t (chunk k items) (All-take (AreSameSigned t) _ _ (All-drop (AreSameSigned t) _ items all)))

-- ---- encodings
one_alike : (p : PrimitiveParts) → All (AreSameSigned p.ptype) (items_of_primitive p) → encode_global_by Signed p ≡ encode_global_by Natural p
one_alike p all = ap (subtract_min p) (least_alike p.ptype (items_of_primitive p) all)

-- the array less the least items of its chunks, which are these
abbrev less_these : PrimitiveParts → List (Option ℤ) → FoRParts
less_these p leasts =
    let references : List ℤ = tabulate (reference_of_chunk leasts) (chunks_of (length (items_of_primitive p))) in
    less_common p references (common_reference references)

many_alike : (p : PrimitiveParts) → All (AreSameSigned p.ptype) (items_of_primitive p) → encode_chunked_by Signed p ≡ encode_chunked_by Natural p
many_alike p all =
    ap (λ leasts. if nat_lt 0 (length p.slots) && list_all is_none (items_of_primitive p) then Nulls (null_constant p.ptype (length p.slots)) (reference_scalar p.ptype (pos 0)) else less_these p leasts) (leasts_alike p.ptype (items_of_primitive p) all)

-- the frames of reference are the same by either order
pub record AreAlike (p : PrimitiveParts) : Type 0 where
  pub one : encode_global_by Signed p ≡ encode_global_by Natural p
  pub many : encode_chunked_by Signed p ≡ encode_chunked_by Natural p

pub signed_alike : (p : PrimitiveParts) → is_unsigned p.ptype ≡ false → AreAlike p
signed_alike p e = let all = all_signed p.ptype (items_of_primitive p) e in record { one = one_alike p all; many = many_alike p all }

pub narrow_alike : (p : PrimitiveParts) (s : BitStatistics) → s ≡ bit_statistics p.ptype (items_of p.validity p.slots) → IsTrue (covers p.validity (length p.slots)) → IsTrue (list_all (fits p.ptype) p.slots) → is_unsigned p.ptype ≡ true → s.widest ≡ 0 → AreAlike p
unfolding bit_statistics
narrow_alike p s e covered fit unsigned none =
    let all = all_narrow p.ptype (items_of_primitive p) unsigned (items_fit p.ptype p.validity p.slots covered fit) (sym (ap (λ a. a.widest) e) ∙ none) in
    record { one = one_alike p all; many = many_alike p all }

-- ---- what costs as much
-- the cost of a choice, if there is one
abbrev cost_in : {A : Type 0} → Option (A × ℕ) → Option ℕ
cost_in choice = option_map (λ c. c.1) choice

-- the less of two costs, of which none is no cost
abbrev less : Option ℕ → Option ℕ → Option ℕ
less None other = other
less (Some m) None = Some m
less (Some m) (Some n) = if nat_lt n m then Some n else Some m

-- the least of costs
abbrev least_cost : List (Option ℕ) → Option ℕ
least_cost [] = None
least_cost (cost ∷ costs) = less cost (least_cost costs)

cost_of_cheaper : {A : Type 0} (a b : Option (A × ℕ)) → cost_in (cheaper a b) ≡ less (cost_in a) (cost_in b)
cost_of_cheaper None b = refl
cost_of_cheaper (Some a) None = refl
cost_of_cheaper (Some a) (Some b) = grind (arith, nat_tests)

cost_of_priced : {A : Type 0} (x : A) (o : Option ℕ) → cost_in (option_map (λ n. (x, n)) o) ≡ o
cost_of_priced x None = refl
cost_of_priced x (Some n) = refl

cost_of_cheapest : {A : Type 0} (cost : A → Option ℕ) (xs : List A) → cost_in (cheapest cost xs) ≡ least_cost (map cost xs)
unfolding cheapest
cost_of_cheapest cost [] = refl
cost_of_cheapest cost (x ∷ xs) =
    cost_of_cheaper (priced cost x) (cheapest cost xs) ∙ (ap (λ o. less o (cost_in (cheapest cost xs))) (cost_of_priced x (cost x)) ∙ ap (less (cost x)) (cost_of_cheapest cost xs))

map_each : {A B : Type 0} (f g : A → B) (cost : B → Option ℕ) (xs : List A) → ((x : A) → cost (f x) ≡ cost (g x)) → map cost (map f xs) ≡ map cost (map g xs)
map_each f g cost [] each = refl
map_each f g cost (x ∷ xs) each = ap (λ y. y ∷ map cost (map f xs)) (each x) ∙ ap (λ ys. cost (g x) ∷ ys) (map_each f g cost xs each)

map_pairs : {A B C : Type 0} (f g : A → B → C) (cost : C → Option ℕ) (xs : List A) (ys : List B) → ((x : A) (y : B) → cost (f x y) ≡ cost (g x y)) → map cost (flat_map (λ x. map (f x) ys) xs) ≡ map cost (flat_map (λ x. map (g x) ys) xs)
map_pairs f g cost [] ys each = refl
map_pairs f g cost (x ∷ xs) ys each =
    map-append cost (map (f x) ys) (flat_map (λ x. map (f x) ys) xs)
    ∙ (ap (λ zs. zs ++ map cost (flat_map (λ x. map (f x) ys) xs)) (map_each (f x) (g x) cost ys (each x))
    ∙ (ap (λ zs. map cost (map (g x) ys) ++ zs) (map_pairs f g cost xs ys each) ∙ sym (map-append cost (map (g x) ys) (flat_map (λ x. map (g x) ys) xs))))

-- nothing of the other costs less
abbrev CostsNoMore : {A : Type 0} → Option (A × ℕ) → Option (A × ℕ) → Type 0
CostsNoMore None None = Unit
CostsNoMore None (Some other) = ⊥
CostsNoMore (Some first) None = Unit
CostsNoMore (Some first) (Some other) = first.1 ≤ other.1

stays : {A : Type 0} (a b : Option (A × ℕ)) → CostsNoMore a b → cheaper a b ≡ a
stays None None h = refl
stays None (Some b) h = absurd h
stays (Some a) None h = refl
stays (Some a) (Some b) h = grind (arith, nat_tests)

with_more : {A : Type 0} (a m b : Option (A × ℕ)) → CostsNoMore a b → CostsNoMore (cheaper a m) b
with_more None None None h = tt
with_more None (Some m) None h = tt
with_more None m (Some b) h = absurd h
with_more (Some a) None None h = tt
with_more (Some a) None (Some b) h = h
with_more (Some a) (Some m) None h = elim (nat_lt m.1 a.1) as (λ v. CostsNoMore (if v then Some m else Some a) None) [ true ↦ tt | false ↦ tt ]
with_more (Some a) (Some m) (Some b) h = elim (cases_lt m.1 a.1) [
  | inl lt ↦ (let low : nat_lt m.1 a.1 ≡ true = lt-ltb m.1 a.1 lt in rw low (let le : m.1 ≤ b.1 = omega arith in le))
  | inr ge ↦ (let high : nat_lt m.1 a.1 ≡ false = le-ltb m.1 a.1 ge in rw high h)
]

as_cheap : {A : Type 0} (a b c : Option (A × ℕ)) → cost_in b ≡ cost_in c → CostsNoMore (cheaper a b) c
as_cheap None None None e = tt
as_cheap None None (Some c) e = cc
as_cheap None (Some b) None e = cc
as_cheap None (Some b) (Some c) e = let same : b.1 ≡ c.1 = some_cost b.1 c.1 e in omega arith
  where
    some_cost : (m n : ℕ) → (let o : Option ℕ = Some m in o) ≡ Some n → m ≡ n
    some_cost m n e = cc
as_cheap (Some a) None None e = tt
as_cheap (Some a) None (Some c) e = cc
as_cheap (Some a) (Some b) None e = cc
as_cheap (Some a) (Some b) (Some c) e = let same : b.1 ≡ c.1 = some_cost b.1 c.1 e in elim (cases_lt b.1 a.1) [
  | inl lt ↦ (let low : nat_lt b.1 a.1 ≡ true = lt-ltb b.1 a.1 lt in rw low (let le : b.1 ≤ c.1 = omega arith in le))
  | inr ge ↦ (let high : nat_lt b.1 a.1 ≡ false = le-ltb b.1 a.1 ge in rw high (let le : a.1 ≤ c.1 = omega arith in le))
]
  where
    some_cost : (m n : ℕ) → (let o : Option ℕ = Some m in o) ≡ Some n → m ≡ n
    some_cost m n e = cc

-- over the same frames a wrapped order finds nothing cheaper
one_costs : (p : PrimitiveParts) (child : Shape) → AreAlike p → encoded_bytes p (FoR Signed child) ≡ encoded_bytes p (FoR Natural child)
unfolding encoded_bytes
one_costs p child same = ap (over_reference (λ q. encoded_bytes q child)) same.one

many_costs : (p : PrimitiveParts) (child others : Shape) → AreAlike p → encoded_bytes p (FoRChunked Signed child others) ≡ encoded_bytes p (FoRChunked Natural child others)
unfolding encoded_bytes
many_costs p child others same = ap (over_references (λ q. encoded_bytes q child) (λ q. encoded_bytes q others)) same.many

pub frames_alike : (p : PrimitiveParts) (children : List Shape) (best : Option (Shape × ℕ)) → AreAlike p → or_frames Signed p children (or_frames Natural p children best) ≡ or_frames Natural p children best
frames_alike p children best same =
    let cost = encoded_bytes p in
    let one = cheapest cost (over_one_reference Natural children) in
    let many = cheapest cost (over_chunk_references Natural children) in
    let one_more = cheapest cost (over_one_reference Signed children) in
    let many_more = cheapest cost (over_chunk_references Signed children) in
    let first : cost_in one ≡ cost_in one_more = cost_of_cheapest cost (over_one_reference Natural children) ∙ (ap least_cost (sym (map_each (FoR Signed) (FoR Natural) cost children (λ child. one_costs p child same))) ∙ sym (cost_of_cheapest cost (over_one_reference Signed children))) in
    let other : cost_in many ≡ cost_in many_more = cost_of_cheapest cost (over_chunk_references Natural children) ∙ (ap least_cost (sym (map_pairs (FoRChunked Signed) (FoRChunked Natural) cost children children (λ child others. many_costs p child others same))) ∙ sym (cost_of_cheapest cost (over_chunk_references Signed children))) in
    let all = cheaper (cheaper best one) many in
    ap (λ c. cheaper c many_more) (stays all one_more (with_more (cheaper best one) many one_more (as_cheap best one one_more first)))
    ∙ stays all many_more (as_cheap (cheaper best one) many many_more other)
