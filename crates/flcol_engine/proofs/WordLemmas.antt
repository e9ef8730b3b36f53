-- Separators, lists and integers in words.
use Rattle.std.proofs.Common.{◌≡◌, ◌≢◌, ℕ, ◌+◌, ◌<◌, List, [], ◌∷◌, ◌++◌, length, get_or, take, drop, zero, suc, arith, refl, sym, ap, ◌∙◌, Bool, true, false, cond, Option, None, Some, add-one, drop-cons, not, ◌==◌, eqb}
use Rattle.std.specs.Prelude.{◌&&◌, is_some, nat_lt, option_and_then, option_map}
use Rattle.std.specs.Char.{is_ascii_digit}
use Rattle.std.specs.Str.{all_ascii_digits}
use Rattle.std.specs.Str.Parse.{digits_value}
use Rattle.std.proofs.lemmas.Bool.{eq-eqb, lt-ltb, ne_eqb}
use Rattle.std.proofs.lemmas.List.{append-nil, append_assoc, drop_all}
use Rattle.flcol_engine.specs.Text.{number_in_digits, on_first_line}
use Rattle.flcol_engine.specs.Words.{each_says, halves_at, list_in_text, parts_at}

-- ---- separators
-- the first separator
pub halves_here : (separator : ℕ) (text : List ℕ) (i : ℕ) → i < length text → ((k : ℕ) → k < i → get_or text k 0 ≢ separator) → get_or text i 0 ≡ separator → halves_at separator text ≡ Some (take i text, drop (i + 1) text)
halves_here s [] i h below at = absurd (omega arith)
halves_here s (b ∷ bs) zero h below at = rw (eq-eqb b s at) refl
halves_here s (b ∷ bs) (suc i) h below at =
    let ih : halves_at s bs ≡ Some (take i bs, drop (i + 1) bs) = halves_here s bs i (omega arith) (λ k lt. below (suc k) (omega arith)) at in
    let here : b ≢ s = below 0 (omega arith) in
    rw (ne_eqb b s here, ih, add-one, add-one) refl

-- no separator
pub no_halves : (separator : ℕ) (text : List ℕ) → ((k : ℕ) → k < length text → get_or text k 0 ≢ separator) → halves_at separator text ≡ None
no_halves s [] below = refl
no_halves s (b ∷ bs) below =
    let ih : halves_at s bs ≡ None = no_halves s bs (λ k lt. below (suc k) (omega arith)) in
    let here : b ≢ s = below 0 (omega arith) in
    rw (ne_eqb b s here, ih) refl

-- the parts that halves give
parts_of_halves : ℕ → List ℕ → Option (List ℕ × List ℕ) → List (List ℕ)
parts_of_halves separator text None = text ∷ []
parts_of_halves separator text (Some (part, rest)) = part ∷ parts_at separator rest

-- the parts of a text by its halves
parts_by_halves : (separator : ℕ) (text : List ℕ) → parts_at separator text ≡ parts_of_halves separator text (halves_at separator text)
unfolding parts_of_halves
parts_by_halves s [] = refl
parts_by_halves s (b ∷ bs) = by (b == s) (halves_at s bs) (parts_by_halves s bs)
  where
    by : (same : Bool) (halves : Option (List ℕ × List ℕ)) → parts_at s bs ≡ parts_of_halves s bs halves
        → cond same ([] ∷ parts_at s bs) (on_first_line b (parts_at s bs)) ≡ parts_of_halves s (b ∷ bs) (cond same (Some ([], bs)) (option_map (λ h. (b ∷ h.0, h.1)) halves))
    by true halves e = refl
    by false None e = rw e refl
    by false (Some (part, rest)) e = rw e refl

-- the first part, and those behind it
pub parts_split : (separator : ℕ) (text part rest : List ℕ) → halves_at separator text ≡ Some (part, rest) → parts_at separator text ≡ part ∷ parts_at separator rest
unfolding parts_of_halves
parts_split s text part rest e = parts_by_halves s text ∙ rw e refl

-- one part alone
pub parts_whole : (separator : ℕ) (text : List ℕ) → halves_at separator text ≡ None → parts_at separator text ≡ text ∷ []
unfolding parts_of_halves
parts_whole s text e = parts_by_halves s text ∙ rw e refl

-- ---- lists
-- what has been read, and what the texts that are left say, is what all say
abbrev pub AreRead : {A : Type 0} → (List ℕ → Option A) → List A → List (List ℕ) → List (List ℕ) → Type 0
AreRead read so_far left all = each_says read all ≡ option_map (λ xs. so_far ++ xs) (each_says read left)

-- nothing is read
pub none_read : {A : Type 0} (read : List ℕ → Option A) (all : List (List ℕ)) → AreRead read [] all all
none_read read all = unchanged (each_says read all)
  where
    unchanged : {A : Type 0} (said : Option (List A)) → said ≡ option_map (λ xs. [] ++ xs) said
    unchanged None = refl
    unchanged (Some xs) = refl

-- one more is read
pub one_read : {A : Type 0} (read : List ℕ → Option A) (x : A) (so_far : List A) (text : List ℕ) (left all : List (List ℕ)) → read text ≡ Some x → AreRead read so_far (text ∷ left) all → AreRead read (so_far ++ x ∷ []) left all
one_read read x so_far text left all e before = before ∙ rw e (joined x so_far (each_says read left))
  where
    joined : {A : Type 0} (x : A) (so_far : List A) (said : Option (List A)) → option_map (λ xs. so_far ++ xs) (option_map (λ ys. x ∷ ys) said) ≡ option_map (λ xs. (so_far ++ x ∷ []) ++ xs) said
    joined x so_far None = refl
    joined x so_far (Some ys) = ap Some (sym (append_assoc so_far (x ∷ []) ys))

-- one says nothing
pub none_said : {A : Type 0} (read : List ℕ → Option A) (so_far : List A) (text : List ℕ) (left all : List (List ℕ)) → read text ≡ None → AreRead read so_far (text ∷ left) all → each_says read all ≡ None
none_said read so_far text left all e before = before ∙ rw e refl

-- all are read
pub all_read : {A : Type 0} (read : List ℕ → Option A) (so_far : List A) (all : List (List ℕ)) → AreRead read so_far [] all → each_says read all ≡ Some so_far
all_read read so_far all before = before ∙ ap Some (append-nil so_far)

-- a text that is not empty is a list of its parts
list_of_parts : {A : Type 0} (read : List ℕ → Option A) (text : List ℕ) → eqb (length text) 0 ≡ false → list_in_text read text ≡ each_says read (parts_at 44 text)
list_of_parts read [] some = cc
list_of_parts read (b ∷ bs) some = refl

-- the part before a comma is read
pub part_read : {A : Type 0} (read : List ℕ → Option A) (x : A) (so_far : List A) (rest part next text : List ℕ) → Some (part, next) ≡ halves_at 44 rest → Some x ≡ read part
    → AreRead read so_far (parts_at 44 rest) (parts_at 44 text) → AreRead read (so_far ++ x ∷ []) (parts_at 44 next) (parts_at 44 text)
part_read read x so_far rest part next text halves said before =
    one_read read x so_far part (parts_at 44 next) (parts_at 44 text) (sym said) (before ∙ rw (parts_split 44 rest part next (sym halves)) refl)

-- a part before a comma says nothing
pub part_refused : {A : Type 0} (read : List ℕ → Option A) (so_far : List A) (rest part next text : List ℕ) → eqb (length text) 0 ≡ false → Some (part, next) ≡ halves_at 44 rest → None ≡ read part
    → AreRead read so_far (parts_at 44 rest) (parts_at 44 text) → list_in_text read text ≡ None
part_refused read so_far rest part next text some halves said before =
    list_of_parts read text some ∙ none_said read so_far part (parts_at 44 next) (parts_at 44 text) (sym said) (before ∙ rw (parts_split 44 rest part next (sym halves)) refl)

-- the last part is read
pub last_read : {A : Type 0} (read : List ℕ → Option A) (x : A) (so_far : List A) (rest text : List ℕ) → eqb (length text) 0 ≡ false → None ≡ halves_at 44 rest → Some x ≡ read rest
    → AreRead read so_far (parts_at 44 rest) (parts_at 44 text) → list_in_text read text ≡ Some (so_far ++ x ∷ [])
last_read read x so_far rest text some whole said before =
    list_of_parts read text some ∙ all_read read (so_far ++ x ∷ []) (parts_at 44 text)
    (one_read read x so_far rest [] (parts_at 44 text) (sym said) (before ∙ rw (parts_whole 44 rest (sym whole)) refl))

-- the last part says nothing
pub last_refused : {A : Type 0} (read : List ℕ → Option A) (so_far : List A) (rest text : List ℕ) → eqb (length text) 0 ≡ false → None ≡ halves_at 44 rest → None ≡ read rest
    → AreRead read so_far (parts_at 44 rest) (parts_at 44 text) → list_in_text read text ≡ None
last_refused read so_far rest text some whole said before =
    list_of_parts read text some ∙ none_said read so_far rest [] (parts_at 44 text) (sym said) (before ∙ rw (parts_whole 44 rest (sym whole)) refl)

-- ---- digits
one_more : (ds : List ℕ) (i : ℕ) → i < length ds → drop i ds ≡ get_or ds i 0 ∷ drop (i + 1) ds
one_more ds i h = rw (add-one, drop-cons ds i 0) refl

-- one more digit
pub digit_seen : (ds : List ℕ) (i : ℕ) → i < length ds → is_ascii_digit (get_or ds i 0) ≡ true → all_ascii_digits (drop i ds) ≡ all_ascii_digits ds → all_ascii_digits (drop (i + 1) ds) ≡ all_ascii_digits ds
digit_seen ds i h digit before = sym (ap all_ascii_digits (one_more ds i h) ∙ rw digit refl) ∙ before

-- a byte that is no digit
pub other_seen : (ds : List ℕ) (i : ℕ) → i < length ds → is_ascii_digit (get_or ds i 0) ≡ false → all_ascii_digits (drop i ds) ≡ all_ascii_digits ds → is_some (number_in_digits ds) ≡ false
other_seen ds i h other before = refused (all_ascii_digits ds) (sym before ∙ (ap all_ascii_digits (one_more ds i h) ∙ rw other refl))
  where
    refused : (all : Bool) → all ≡ false → is_some (cond (nat_lt 0 (length ds) && all) (Some (digits_value 10 ds)) None) ≡ false
    refused all e = rw e (both_ways (nat_lt 0 (length ds)))
      where
        both_ways : (some : Bool) → is_some (cond (some && false) (Some (digits_value 10 ds)) None) ≡ false
        both_ways true = refl
        both_ways false = refl

-- digits alone are a number where there are some
pub digits_seen : (ds : List ℕ) → all_ascii_digits (drop (length ds) ds) ≡ all_ascii_digits ds → is_some (number_in_digits ds) ≡ not (length ds == 0)
digits_seen [] before = refl
digits_seen (d ∷ ds) before =
    let some : length (d ∷ ds) ≢ 0 = λ e. omega arith in
    let digits : true ≡ all_ascii_digits (d ∷ ds) = ap all_ascii_digits (sym (drop_all (length (d ∷ ds)) (d ∷ ds) (omega arith))) ∙ before in
    rw (ne_eqb (length (d ∷ ds)) 0 some) (number_is (all_ascii_digits (d ∷ ds)) (nat_lt 0 (length (d ∷ ds))) (sym digits) (lt-ltb 0 (length (d ∷ ds)) (omega arith)))
  where
    number_is : (all some : Bool) → all ≡ true → some ≡ true → is_some (cond (some && all) (Some (digits_value 10 (d ∷ ds))) None) ≡ true
    number_is all some e h = rw (e, h) refl
