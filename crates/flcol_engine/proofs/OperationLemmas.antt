-- Indices, bits and words of operations.
use Rattle.std.proofs.Common.{◌≡◌, ◌≢◌, ◌<◌, ◌≤◌, ◌+◌, ◌==◌, ℕ, pos, List, [], ◌∷◌, ◌++◌, length, map, get_or, take, drop, Bool, true, false, cond, Option, None, Some, zero, suc, refl, sym, ap, ◌∙◌, arith, add-one}
use Rattle.std.specs.Prelude.{◌&&◌, is_some, option_map, unwrap_or, if◌then◌else◌}
use Rattle.std.specs.List.{list_all}
use Rattle.std.proofs.lemmas.List.{map-append}
use Rattle.fl_types.specs.declared.dtype.PType.TheVariants.{U64}
use Rattle.fl_column.specs.Columns.{non_nullable, primitive_of_options}
use Rattle.fl_ops.specs.declared.operations.Op.{Op}
use Rattle.fl_ops.specs.Operations.{step_of}
use Rattle.flcol_engine.specs.Words.{indices_array}
use Rattle.flcol_engine.proofs.WordLemmas.{AreRead, none_said, one_read}

-- one of a list that fails the test
pub fails_at : {A : Type 0} (p : A → Bool) (xs : List A) (i : ℕ) (d : A) → i < length xs → p (get_or xs i d) ≡ false → list_all p xs ≡ false
fails_at p [] i d h e = absurd (omega arith)
fails_at p (x ∷ xs) zero d h e = rw e refl
fails_at p (x ∷ xs) (suc i) d h e = rw (fails_at p xs i d (omega arith) e) (both_ways (p x))
  where
    both_ways : (first : Bool) → (first && false) ≡ false
    both_ways true = refl
    both_ways false = refl

-- one more passes the test
pub one_passes : {A : Type 0} (p : A → Bool) (xs : List A) (x : A) → list_all p xs ≡ true → p x ≡ true → list_all p (xs ++ x ∷ []) ≡ true
one_passes p [] x e h = rw h refl
one_passes p (y ∷ xs) x e h = by (p y) (list_all p xs) (list_all p (xs ++ x ∷ [])) e (λ rest. one_passes p xs x rest h)
  where
    by : (first rest more : Bool) → (first && rest) ≡ true → (rest ≡ true → more ≡ true) → (first && more) ≡ true
    by true rest more e f = f e
    by false rest more e f = absurd cc

-- ---- indices
-- numbers are no nulls
pub all_some : {A : Type 0} (xs : List A) → list_all is_some (map Some xs) ≡ true
all_some [] = refl
all_some (x ∷ xs) = all_some xs

-- numbers as integers
integers_of_some : (numbers : List ℕ) → map (λ index. pos (unwrap_or index 0)) (map Some numbers) ≡ map pos numbers
integers_of_some [] = refl
integers_of_some (n ∷ numbers) = ap (λ xs. pos n ∷ xs) (integers_of_some numbers)

-- ---- words
-- the words that are left are the next and those behind it
words_left : {S : Type 0} (f : S → List ℕ) (words : List S) (i : ℕ) (w : S) → i < length words → get_or words i w ≡ w → map f (drop i words) ≡ f w ∷ map f (drop (i + 1) words)
words_left f [] i w h e = absurd (omega arith)
words_left f (x ∷ words) zero w h e = rw (ap f e) refl
words_left f (x ∷ words) (suc i) w h e =
    let rest : map f (drop i words) ≡ f w ∷ map f (drop (i + 1) words) = words_left f words i w (omega arith) e in
    rw (add-one (suc i)) (rest ∙ ap (λ n. f w ∷ map f (drop n words)) (add-one i))

-- one more word is read
pub word_read : {S A : Type 0} (f : S → List ℕ) (read : List ℕ → Option A) (x : A) (so_far : List A) (words : List S) (i : ℕ) (w : S) → i < length words → get_or words i w ≡ w → read (f w) ≡ Some x
    → AreRead read so_far (map f (drop i words)) (map f words) → AreRead read (so_far ++ x ∷ []) (map f (drop (i + 1) words)) (map f words)
word_read f read x so_far words i w h at said before =
    one_read read x so_far (f w) (map f (drop (i + 1) words)) (map f words) said (before ∙ rw (words_left f words i w h at) refl)

-- a list of operations with one more
pub operations_more : (ops : List Op) (op : Op) → map step_of (ops ++ op ∷ []) ≡ map step_of ops ++ step_of op ∷ []
operations_more ops op = map-append step_of ops (op ∷ [])

-- ---- arrays of indices
-- where none is null, numbers without nulls
pub numbers_array : (numbers : List ℕ) (indices : List (Option ℕ)) → map Some numbers ≡ indices → indices_array indices ≡ non_nullable U64 (map pos numbers)
numbers_array numbers indices e = rw (← e, all_some numbers, integers_of_some numbers) refl

-- else the numbers and the nulls
pub options_array : (indices : List (Option ℕ)) → list_all is_some indices ≡ false → indices_array indices ≡ primitive_of_options U64 (map (option_map pos) indices)
options_array indices e = rw e refl
