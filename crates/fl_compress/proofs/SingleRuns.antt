-- A column each of whose items begins a run: its run values are its items.
use Rattle.std.proofs.Common.{◌≡◌, ℕ, ℤ, pos, zero, suc, ◌+◌, ◌-◌, ◌*◌, ◌/◌, ◌%◌, ◌<◌, ◌≤◌, true, false, not, cond, List, [], ◌∷◌, ◌++◌, length, map, take, drop, get_or, min, Option, Some, None, unwrap_or, refl, ap, sym, subst, ◌∙◌, arith, add-one, inl, inr}
use Rattle.std.specs.Ordering.{int_eq}
use Rattle.std.proofs.lemmas.Bool.{cases_lt}
use Rattle.std.proofs.lemmas.Bool.Decides.{Decides-int_eq}
use Rattle.std.proofs.lemmas.List.{append-nil, drop_more, get_or-drop, get_or-map, length-drop, length-map, take_all, take_more}
use Rattle.fl_types.specs.declared.validity.Validity.{Validity}
use Rattle.fl_types.specs.declared.validity.Validity.TheVariants as valid
use Rattle.fl_types.specs.Bits.{between}
use Rattle.fl_types.specs.Validities.{items_of}
use Rattle.fl_column.specs.Columns.{PrimitiveParts}
use Rattle.fl_patches.proofs.Blocks.{take_between}
use Rattle.fl_codec.specs.Chunks.{chunks_of}
use Rattle.fl_codec.specs.ForwardFill.{Reset, fill_forward, last_some}
use Rattle.fl_codec.specs.Parts.{encode_runs}
use Rattle.fl_codec.specs.Runs.{chunk_values, differs_next, values_to}
use Rattle.fl_codec.proofs.DeltaRoundTrips.{fill_forward-valid}
use Rattle.fl_codec.proofs.ReferenceLaws.{between_beyond}
use Rattle.fl_codec.proofs.RunLaws.{values_more, values_next, values_up_to}

-- items none of which is null
abbrev full : List ℤ → List (Option ℤ)
full slots = map (λ x. Some x) slots

-- each but the first differs from the one before
abbrev pub AllDiffer : List ℤ → Type 0
AllDiffer slots = (i : ℕ) → i + 1 < length slots → int_eq (get_or slots (i + 1) (pos 0)) (get_or slots i (pos 0)) ≡ false

-- ---- items and padding
pub item_is : (slots : List ℤ) (i : ℕ) → i < length slots → fill_forward Reset (full slots) i ≡ get_or slots i (pos 0)
item_is slots i h =
    let place : 1024 * (i / 1024) + i % 1024 ≡ i = omega arith in
    let present : get_or (full slots) i None ≡ Some (get_or slots i (pos 0)) = get_or-map (λ x. Some x) slots i (pos 0) None h in
    ap (fill_forward Reset (full slots)) (sym place)
    ∙ fill_forward-valid Reset (full slots) (i / 1024) (i % 1024) (get_or slots i (pos 0)) (omega arith) (ap (λ n. get_or (full slots) n None) place ∙ present)

pub padding_is : (slots : List ℤ) (k i : ℕ) → 1024 * k < length slots → length slots ≤ i → i < 1024 * (k + 1) → fill_forward Reset (full slots) i ≡ get_or slots (length slots - 1) (pos 0)
padding_is slots k i begun beyond within =
    let xs = full slots in
    let long : length xs ≡ length slots = length-map slots (λ x. Some x) in
    let last = length slots - 1 in
    let here : 1024 * (i / 1024) ≡ 1024 * k = omega arith in
    let there : 1024 * (last / 1024) ≡ 1024 * k = omega arith in
    let end : min (i + 1) (length xs) ≡ last + 1 = omega arith in
    let same : between (1024 * (i / 1024)) (i + 1) xs ≡ between (1024 * (last / 1024)) (last + 1) xs =
    ap (λ s. between s (i + 1) xs) here ∙ (sym (between_beyond xs (1024 * k) (i + 1) (omega arith)) ∙ (ap (λ e. between (1024 * k) e xs) end ∙ ap (λ s. between s (last + 1) xs) (sym there))) in
    ap (λ ys. unwrap_or (last_some ys) (pos 0)) same ∙ item_is slots last (omega arith)

-- ---- the values of a chunk
differs : (slots : List ℤ) (k t : ℕ) → AllDiffer slots → 1024 * k + (t + 1) < length slots → differs_next (fill_forward Reset (full slots)) k t ≡ true
differs slots k t h within =
    let next : 1024 * k + (t + 1) ≡ 1024 * k + t + 1 = omega arith in
    let item = item_is slots (1024 * k + (t + 1)) within in
    let before = item_is slots (1024 * k + t) (omega arith) in
    rw (item, before, next) (ap not (h (1024 * k + t) (omega arith)))

equal_next : (x y z : ℤ) → x ≡ z → y ≡ z → not (int_eq x y) ≡ false
equal_next x y z e f = ap not ((Decides-int_eq x y).1 (e ∙ sym f))

repeats : (slots : List ℤ) (k t : ℕ) → 1024 * k < length slots → length slots ≤ 1024 * k + (t + 1) → t < 1023 → differs_next (fill_forward Reset (full slots)) k t ≡ false
repeats slots k t begun beyond small =
    let last = get_or slots (length slots - 1) (pos 0) in
    let next = padding_is slots k (1024 * k + (t + 1)) begun beyond (omega arith) in
    equal_next (fill_forward Reset (full slots) (1024 * k + (t + 1))) (fill_forward Reset (full slots) (1024 * k + t)) last next (elim (cases_lt (1024 * k + t) (length slots)) [
      | inl within ↦ (let place : 1024 * k + t ≡ length slots - 1 = omega arith in item_is slots (1024 * k + t) within ∙ ap (λ n. get_or slots n (pos 0)) place)
      | inr past ↦ padding_is slots k (1024 * k + t) begun past (omega arith)
    ])

-- those up to a position are the items up to there
up_to : (slots : List ℤ) (k n : ℕ) → AllDiffer slots → 1024 * k < length slots → n ≤ 1023 → values_up_to (fill_forward Reset (full slots)) k n ≡ take (n + 1) (drop (1024 * k) slots)
up_to slots k zero h begun most =
    let more = drop_more slots (1024 * k) (pos 0) begun in
    ap (λ z. z ∷ []) (item_is slots (1024 * k) begun) ∙ sym (ap (take 1) more)
up_to slots k (suc n) h begun most =
    let item = fill_forward Reset (full slots) in
    let rest = drop (1024 * k) slots in
    let long : length rest ≡ length slots - 1024 * k = length-drop (1024 * k) slots in
    let before = up_to slots k n h begun (omega arith) in
    let value : ℕ → ℤ = λ t. item (1024 * k + (t + 1)) in
    subst (λ m. values_up_to item k m ≡ take (m + 1) rest) (add-one n)
    (values_next item k n ∙ elim (cases_lt (1024 * k + (n + 1)) (length slots)) [
      | inl within ↦
          ap (λ b. values_up_to item k n ++ map value (cond b (n ∷ []) [])) (differs slots k n h within)
          ∙ (ap (λ z. values_up_to item k n ++ z ∷ []) (item_is slots (1024 * k + (n + 1)) within ∙ sym (get_or-drop (1024 * k) slots (n + 1) (pos 0)))
          ∙ (ap (λ ys. ys ++ get_or rest (n + 1) (pos 0) ∷ []) before ∙ sym (take_more rest (n + 1) (pos 0) (omega arith))))
      | inr past ↦
          ap (λ b. values_up_to item k n ++ map value (cond b (n ∷ []) [])) (repeats slots k n begun past (omega arith))
          ∙ (append-nil (values_up_to item k n) ∙ (before ∙ (take_all (n + 1) rest (omega arith) ∙ sym (take_all (n + 1 + 1) rest (omega arith)))))
    ])

of_chunk : (slots : List ℤ) (k : ℕ) → AllDiffer slots → 1024 * k < length slots → chunk_values (fill_forward Reset (full slots)) k ≡ between (1024 * k) (1024 * (k + 1)) slots
of_chunk slots k h begun =
    let size : 1024 * (k + 1) - 1024 * k ≡ 1024 = omega arith in
    up_to slots k 1023 h begun (omega arith) ∙ ap (λ n. take n (drop (1024 * k) slots)) (sym size)

-- ---- all values
of_chunks : (slots : List ℤ) (n : ℕ) → AllDiffer slots → n ≤ chunks_of (length slots) → values_to (full slots) n ≡ take (1024 * n) slots
of_chunks slots zero h most = refl
of_chunks slots (suc n) h most =
    let begun : 1024 * n < length slots = omega arith in
    subst (λ m. values_to (full slots) m ≡ take (1024 * m) slots) (add-one n)
    (values_more (full slots) n
    ∙ (ap (λ ys. ys ++ chunk_values (fill_forward Reset (full slots)) n) (of_chunks slots n h (omega arith))
    ∙ (ap (λ ys. take (1024 * n) slots ++ ys) (of_chunk slots n h begun) ∙ sym (take_between slots (1024 * n) (1024 * (n + 1)) (omega arith)))))

all_values : (slots : List ℤ) → AllDiffer slots → values_to (full slots) (chunks_of (length slots)) ≡ slots
all_values slots h = of_chunks slots (chunks_of (length slots)) h (omega arith) ∙ take_all (1024 * chunks_of (length slots)) slots (omega arith)

-- where no item is null and each differs from the one before, the run values are the array
pub single_values : (p : PrimitiveParts) → p.validity ≡ valid.NonNullable → AllDiffer p.slots → (encode_runs p).values ≡ p
single_values p e h =
    let slots : values_to (items_of p.validity p.slots) (chunks_of (length p.slots)) ≡ p.slots = ap (λ v. values_to (items_of v p.slots) (chunks_of (length p.slots))) e ∙ all_values p.slots h in
    let made : List ℤ → Validity → PrimitiveParts = λ xs v. record { ptype = p.ptype; slots = xs; validity = v } in
    ap (λ xs. made xs valid.NonNullable) slots ∙ ap (made p.slots) (sym e)
