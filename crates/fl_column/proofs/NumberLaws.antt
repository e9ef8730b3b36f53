-- Numbers that are read, and narrowed to the smallest type that holds a bound.
use Rattle.std.proofs.Common.{◌≡◌, ℕ, ℤ, pos, ◌+◌, ◌<◌, ◌≤◌, ◌^◌, true, List, [], ◌∷◌, ◌++◌, length, map, take, get_or, nat_lt, nat_le, unsigned_abs, refl, ap, sym, ◌∙◌, inl, inr, arith}
use Rattle.std.proofs.lemmas.Bool.{and_from, and_parts, cases_Bool, le-leb, leb-true, ltb-true}
use Rattle.std.proofs.lemmas.Bool.Decides.{Decides-int_eq}
use Rattle.std.proofs.lemmas.List.{get_or-map, length-map, map-append, map_more}
use Rattle.std.specs.List.{list_all}
use Rattle.num_traits.specs.Ints.{unsigned-bits}
use Rattle.fl_types.specs.Integers.{fits, is_unsigned, smallest_type, wrap}
use Rattle.fl_types.specs.declared.dtype.PType.{PType}
use Rattle.fl_types.specs.declared.dtype.PType.TheVariants.{U8, U16, U32, U64}
use Rattle.fl_column.specs.Numbers.{numbers_by}
use Rattle.fl_column.proofs.ListLaws.{all_at}

fits_unsigned : (ptype : PType) (z : ℤ) → z ≡ wrap ptype z → fits ptype z ≡ true
fits_unsigned ptype z e = (Decides-int_eq (wrap ptype z) z).1 (sym e)

-- a number up to a bound is one of the smallest type that holds the bound
pub fits_smallest : (n bound : ℕ) → n ≤ bound → bound < 2 ^ 64 → fits (smallest_type bound) (pos n) ≡ true
fits_smallest n bound h room = elim (cases_Bool (nat_lt bound (2 ^ 8))) [
  | inl a ↦ (let low = ltb-true bound (2 ^ 8) a in rw a (fits_unsigned U8 (pos n) (unsigned-bits 8 n (omega arith))))
  | inr a ↦ elim (cases_Bool (nat_lt bound (2 ^ 16))) [
    | inl b ↦ (let low = ltb-true bound (2 ^ 16) b in rw (a, b) (fits_unsigned U16 (pos n) (unsigned-bits 16 n (omega arith))))
    | inr b ↦ elim (cases_Bool (nat_lt bound (2 ^ 32))) [
      | inl d ↦ (let low = ltb-true bound (2 ^ 32) d in rw (a, b, d) (fits_unsigned U32 (pos n) (unsigned-bits 32 n (omega arith))))
      | inr d ↦ rw (a, b, d) (fits_unsigned U64 (pos n) (unsigned-bits 64 n (omega arith)))
    ]
  ]
]

pub smallest_unsigned : (bound : ℕ) → is_unsigned (smallest_type bound) ≡ true
smallest_unsigned bound = elim (cases_Bool (nat_lt bound (2 ^ 8))) [
  | inl a ↦ rw a refl
  | inr a ↦ elim (cases_Bool (nat_lt bound (2 ^ 16))) [
    | inl b ↦ rw (a, b) refl
    | inr b ↦ elim (cases_Bool (nat_lt bound (2 ^ 32))) [ inl d ↦ rw (a, b, d) refl | inr d ↦ rw (a, b, d) refl ]
  ]
]

-- each of these numbers is one of that type
pub all_fit : (numbers : List ℕ) (bound : ℕ) → list_all (λ n. nat_le n bound) numbers ≡ true → bound < 2 ^ 64 → list_all (fits (smallest_type bound)) (map pos numbers) ≡ true
all_fit [] bound below room = refl
all_fit (n ∷ numbers) bound below room =
    let parts = and_parts (nat_le n bound) _ below in
    and_from _ _ (fits_smallest n bound (leb-true n bound parts.0) room) (all_fit numbers bound parts.1 room)

-- the number of an item that is read
pub number_read : {I : Type 0} (value : I → ℤ) (items : List I) (i : ℕ) (x : I) → i < length items → x ≡ get_or items i x → unsigned_abs (value x) ≡ get_or (numbers_by value items) i 0
number_read value items i x h e =
    let inside : i < length (map value items) = let same = length-map items value in omega arith in
    ap (λ y. unsigned_abs (value y)) e ∙ sym (get_or-map unsigned_abs (map value items) i (value x) 0 inside ∙ ap unsigned_abs (get_or-map value items i x (value x) h))

-- one more number that is narrowed
pub narrowed_more : {T : Type 0} (value : T → ℤ) (wrapped : ℤ → ℤ) (numbers : List ℕ) (old new : List T) (x : T) (i : ℕ) → i < length numbers → new ≡ old ++ x ∷ [] → map value old ≡ map pos (take i numbers)
    → value x ≡ wrapped (pos (get_or numbers i 0)) → wrapped (pos (get_or numbers i 0)) ≡ pos (get_or numbers i 0) → map value new ≡ map pos (take (i + 1) numbers)
narrowed_more value wrapped numbers old new x i h added before cast whole =
    rw (added, map-append, before, cast, whole) (sym (map_more pos numbers i 0 h))

-- each of these numbers is one of a type that is the smallest
pub all_narrow : (numbers items : List ℕ) (bound : ℕ) (ptype smallest : PType) → items ≡ numbers → list_all (λ n. nat_le n bound) numbers ≡ true → bound < 2 ^ 64 → smallest ≡ smallest_type bound → smallest ≡ ptype → list_all (fits ptype) (map pos items) ≡ true
all_narrow numbers items bound ptype smallest is below room least same = rw (is, ← same, least) (all_fit numbers bound below room)

-- a number that a type has is cast to itself
pub whole_at : (ptype : PType) (numbers : List ℕ) (i : ℕ) → list_all (fits ptype) (map pos numbers) ≡ true → i < length numbers → wrap ptype (pos (get_or numbers i 0)) ≡ pos (get_or numbers i 0)
whole_at ptype numbers i all h =
    let inside : i < length (map pos numbers) = let same = length-map numbers pos in omega arith in
    (Decides-int_eq (wrap ptype (pos (get_or numbers i 0))) (pos (get_or numbers i 0))).0 (rw (← get_or-map pos numbers i 0 (pos 0) h) (all_at (fits ptype) (map pos numbers) i (pos 0) all inside))

-- numbers below a bound are numbers up to it
pub below_bound : (numbers : List ℕ) (bound : ℕ) → list_all (λ n. nat_lt n bound) numbers ≡ true → list_all (λ n. nat_le n bound) numbers ≡ true
below_bound [] bound below = refl
below_bound (n ∷ numbers) bound below =
    let parts = and_parts (nat_lt n bound) _ below in
    let low = ltb-true n bound parts.0 in
    and_from _ _ (le-leb n bound (omega arith)) (below_bound numbers bound parts.1)
