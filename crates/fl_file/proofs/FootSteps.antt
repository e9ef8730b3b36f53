-- Reading and writing a foot part by part, as loops do.
use Rattle.std.proofs.Common.{◌≡◌, ℕ, suc, ◌+◌, ◌-◌, ◌^◌, ◌≤◌, ◌<◌, ◌&&◌, Bool, false, eqb, nat_le, List, [], ◌∷◌, ◌++◌, length, take, drop, get_or, Option, Some, None, Result, Ok, Err, refl, sym, ap, ◌∙◌, append_assoc, arith, inl, inr, ◌%◌, subst}
use Rattle.std.specs.Prelude.{◌≢◌, ◌/◌, OnOk, flat_map, nat_lt}
use Rattle.std.proofs.lemmas.Bool.{cases_Bool, and_left, and_right, cond-false, cond-true, eq-eqb, le-leb, le-ltb, leb-true, lt-leb, lt-ltb, ne_eqb}
use Rattle.std.proofs.lemmas.List.{append-nil, at_drop_more, take_more}
use Rattle.std.proofs.lemmas.Grind.{flat_map-append}
use Rattle.fl_types.specs.declared.dtype.Nullability.{Nullability}
use Rattle.fl_types.specs.declared.dtype.PType.{PType}
use Rattle.fl_file.specs.declared.error.FileError.{FileError}
use Rattle.fl_file.specs.declared.error.FileError.TheVariants as errors
use Rattle.fl_file.specs.declared.foot.ChunkEntry.{ChunkEntry}
use Rattle.fl_file.specs.declared.statistics.ChunkStatistics.{ChunkStatistics}
use Rattle.fl_file.specs.Foot.{FootParts}
use Rattle.fl_file.specs.FootReading.{◌>>=◌, IsMissing, Refuses, body_of, entries_at, entry_at, entry_of, lie_between, lies_from, placed, statistics_at, type_of_word, word_at}

-- ---- writing
-- a loop has written one part more
pub next_part : {A : Type 0} (f : A → List ℕ) (xs : List A) (i : ℕ) (x d : A) (old out new : List ℕ) → i < length xs → x ≡ get_or xs i d → out ≡ old ++ flat_map f (take i xs) → new ≡ out ++ f x → new ≡ old ++ flat_map f (take (i + 1) xs)
next_part f xs i x d old out new lt is so_far next =
    let more : take (i + 1) xs ≡ take i xs ++ x ∷ [] = take_more xs i d lt ∙ ap (λ y. take i xs ++ y ∷ []) (sym is) in
    let parts : flat_map f (take (i + 1) xs) ≡ flat_map f (take i xs) ++ f x = ap (flat_map f) more ∙ flat_map-append f (take i xs) (x ∷ []) ∙ ap (λ y. flat_map f (take i xs) ++ y) (append-nil (f x)) in
    next ∙ ap (λ y. y ++ f x) so_far ∙ append_assoc old (flat_map f (take i xs)) (f x) ∙ ap (λ y. old ++ y) (sym parts)

-- ---- reading entries
-- the entries before, and those that are still read
abbrev pub with_entries : List ChunkEntry → Option (List ChunkEntry) → Option (List ChunkEntry)
with_entries front None = None
with_entries front (Some es) = Some (front ++ es)

regrouped : (front : List ChunkEntry) (e : ChunkEntry) (read : Option (List ChunkEntry)) → with_entries front (read >>= λ others. Some (e ∷ others)) ≡ with_entries (front ++ e ∷ []) read
regrouped front e None = refl
regrouped front e (Some es) = ap (λ x. Some x) (sym (append_assoc front (e ∷ []) es))

pub next_entry : (t : PType) (front : List ChunkEntry) (count i : ℕ) (bytes : List ℕ) (e : ChunkEntry) (total : Option (List ChunkEntry)) → i < count → entry_at t (take 96 bytes) ≡ Some e
    → with_entries front (entries_at t (count - i) bytes) ≡ total → with_entries (front ++ e ∷ []) (entries_at t (count - (i + 1)) (drop 96 bytes)) ≡ total
unfolding entries_at
next_entry t front count i bytes e total lt h so_far =
    let k : count - i ≡ suc (count - (i + 1)) = omega arith in
    let one : with_entries front (entries_at t (count - i) bytes) ≡ with_entries (front ++ e ∷ []) (entries_at t (count - (i + 1)) (drop 96 bytes)) = rw (k, h) (regrouped front e (entries_at t (count - (i + 1)) (drop 96 bytes))) in
    sym one ∙ so_far

pub no_entry : (f : FileError) (t : PType) (front : List ChunkEntry) (count i : ℕ) (bytes : List ℕ) (total : Option (List ChunkEntry)) → i < count → IsMissing f (entry_at t (take 96 bytes))
    → with_entries front (entries_at t (count - i) bytes) ≡ total → IsMissing f total
unfolding entries_at
no_entry errors.OutOfMemory t front count i bytes total lt h so_far = tt
no_entry errors.BadField t front count i bytes total lt h so_far =
    let k : count - i ≡ suc (count - (i + 1)) = omega arith in
    let one : with_entries front (entries_at t (count - i) bytes) ≡ None = rw (k, h) refl in
    sym so_far ∙ one
no_entry errors.TooShort t front count i bytes total lt h so_far = absurd h
no_entry errors.BadMark t front count i bytes total lt h so_far = absurd h
no_entry errors.BadLength t front count i bytes total lt h so_far = absurd h
no_entry errors.BadChecksum t front count i bytes total lt h so_far = absurd h
no_entry errors.BadPlace t front count i bytes total lt h so_far = absurd h
no_entry errors.BadChunk t front count i bytes total lt h so_far = absurd h
no_entry errors.TooLong t front count i bytes total lt h so_far = absurd h
no_entry errors.ReadFault t front count i bytes total lt h so_far = absurd h
no_entry errors.WriteFault t front count i bytes total lt h so_far = absurd h

pub all_entries : (t : PType) (front : List ChunkEntry) (count i : ℕ) (bytes : List ℕ) (total : Option (List ChunkEntry)) → count ≤ i → with_entries front (entries_at t (count - i) bytes) ≡ total → total ≡ Some front
unfolding entries_at
all_entries t front count i bytes total le so_far =
    let k : count - i ≡ 0 = omega arith in
    let one : with_entries front (entries_at t (count - i) bytes) ≡ Some front = rw k (ap (λ x. Some x) (append-nil front)) in
    sym so_far ∙ one

-- ---- refusals
pub refused : {Y : Type 0} (e : FileError) (read : Result Y FileError) → read ≡ Err e → Refuses e read
refused errors.OutOfMemory read h = tt
refused errors.TooShort read h = h
refused errors.BadMark read h = h
refused errors.BadLength read h = h
refused errors.BadChecksum read h = h
refused errors.BadField read h = h
refused errors.BadPlace read h = h
refused errors.BadChunk read h = h
refused errors.TooLong read h = h
refused errors.ReadFault read h = h
refused errors.WriteFault read h = h

pub placed_missing : (e : FileError) (end : ℕ) (found : Option FootParts) → IsMissing e found → Refuses e (placed end found)
placed_missing errors.OutOfMemory end found h = tt
placed_missing errors.BadField end found h = ap (placed end) h
placed_missing errors.TooShort end found h = absurd h
placed_missing errors.BadMark end found h = absurd h
placed_missing errors.BadLength end found h = absurd h
placed_missing errors.BadChecksum end found h = absurd h
placed_missing errors.BadPlace end found h = absurd h
placed_missing errors.BadChunk end found h = absurd h
placed_missing errors.TooLong end found h = absurd h
placed_missing errors.ReadFault end found h = absurd h
placed_missing errors.WriteFault end found h = absurd h

-- ---- places
-- no chunks end at a place that lies before their beginning
pub past_end : (start end : ℕ) (es : List ChunkEntry) → end < start → lie_between start end es ≡ false
past_end start end [] h = lt-leb start end h
past_end start end (e ∷ es) h = elim (cases_Bool (nat_le start e.offset)) [
  | inl behind ↦ let l : start ≤ e.offset = leb-true start e.offset behind in and_right (eqb (e.offset % 64) 0 && nat_le start e.offset) (lie_between (e.offset + e.size) end es) (past_end (e.offset + e.size) end es (omega arith))
  | inr before ↦ and_left (eqb (e.offset % 64) 0 && nat_le start e.offset) (lie_between (e.offset + e.size) end es) (and_right (eqb (e.offset % 64) 0) (nat_le start e.offset) before)
]

pub not_multiple : (place end : ℕ) (e : ChunkEntry) (es : List ChunkEntry) → e.offset % 64 ≢ 0 → lie_between place end (e ∷ es) ≡ false
not_multiple place end e es h = and_left (eqb (e.offset % 64) 0 && nat_le place e.offset) (lie_between (e.offset + e.size) end es) (and_left (eqb (e.offset % 64) 0) (nat_le place e.offset) (ne_eqb (e.offset % 64) 0 h))

pub too_early : (place end : ℕ) (e : ChunkEntry) (es : List ChunkEntry) → e.offset < place → lie_between place end (e ∷ es) ≡ false
too_early place end e es h = and_left (eqb (e.offset % 64) 0 && nat_le place e.offset) (lie_between (e.offset + e.size) end es) (and_right (eqb (e.offset % 64) 0) (nat_le place e.offset) (lt-leb place e.offset h))

pub too_far : (place end : ℕ) (e : ChunkEntry) (es : List ChunkEntry) → end < e.offset + e.size → lie_between place end (e ∷ es) ≡ false
too_far place end e es h = and_right (eqb (e.offset % 64) 0 && nat_le place e.offset) (lie_between (e.offset + e.size) end es) (past_end (e.offset + e.size) end es h)

pub goes_on : (place end : ℕ) (e : ChunkEntry) (es : List ChunkEntry) → e.offset % 64 ≡ 0 → place ≤ e.offset → lie_between place end (e ∷ es) ≡ lie_between (e.offset + e.size) end es
goes_on place end e es h k = rw (eq-eqb (e.offset % 64) 0 h, le-leb place e.offset k) refl

-- one chunk further
pub next_place : (place end : ℕ) (found : Option ℕ) (es : List ChunkEntry) (i : ℕ) (e : ChunkEntry) (total : Bool) → i < length es → e ≡ get_or es i e → end < 2 ^ 64
    → ((end : ℕ) (rest : List ChunkEntry) → end < 2 ^ 64 → lie_between place end (e ∷ rest) ≡ lies_from found end rest) → lie_between place end (drop i es) ≡ total → lies_from found end (drop (i + 1) es) ≡ total
next_place place end found es i e total lt is small step so_far =
    sym (step end (drop (i + 1) es) small) ∙ ap (λ x. lie_between place end (x ∷ drop (i + 1) es)) is ∙ sym (at_drop_more (lie_between place end) es i e lt) ∙ so_far

-- ---- what the parts make
pub next_of : (t : PType) (front : List ChunkEntry) (count i : ℕ) (rest first after : List ℕ) (e : ChunkEntry) (total : Option (List ChunkEntry)) → i < count → first ≡ take 96 rest → after ≡ drop 96 rest → entry_at t first ≡ Some e
    → with_entries front (entries_at t (count - i) rest) ≡ total → with_entries (front ++ e ∷ []) (entries_at t (count - (i + 1)) after) ≡ total
next_of t front count i rest first after e total lt first_is after_is h so_far =
    ap (λ b. with_entries (front ++ e ∷ []) (entries_at t (count - (i + 1)) b)) after_is ∙ next_entry t front count i rest e total lt (ap (entry_at t) (sym first_is) ∙ h) so_far

pub missing_of : (f : FileError) (t : PType) (front : List ChunkEntry) (count i : ℕ) (rest first : List ℕ) (total : Option (List ChunkEntry)) → i < count → first ≡ take 96 rest → IsMissing f (entry_at t first)
    → with_entries front (entries_at t (count - i) rest) ≡ total → IsMissing f total
missing_of f t front count i rest first total lt first_is h so_far = no_entry f t front count i rest total lt (subst (λ b. IsMissing f (entry_at t b)) first_is h) so_far

pub entry_made : (t : PType) (bytes : List ℕ) (offset size checksum : ℕ) (s : ChunkStatistics) → offset ≡ word_at 0 bytes → size ≡ word_at 8 bytes → checksum ≡ word_at 16 bytes → checksum < 2 ^ 32 → statistics_at t bytes ≡ Some s
    → Some (record { offset = offset; size = size; checksum = checksum; statistics = s }) ≡ entry_at t bytes
unfolding entry_at
entry_made t bytes offset size checksum s a b c small h =
    sym (ap (entry_of (word_at 0 bytes) (word_at 8 bytes) (word_at 16 bytes)) h
    ∙ rw (sym a, sym b, sym c) (cond-true (nat_lt checksum (2 ^ 32)) (Some (record { offset = offset; size = size; checksum = checksum; statistics = s })) None (lt-ltb checksum (2 ^ 32) small)))

pub entry_none : (t : PType) (bytes : List ℕ) (checksum : ℕ) (s : ChunkStatistics) → checksum ≡ word_at 16 bytes → 2 ^ 32 ≤ checksum → statistics_at t bytes ≡ Some s → (let none : Option ChunkEntry = None in none) ≡ entry_at t bytes
unfolding entry_at
entry_none t bytes checksum s c large h =
    sym (ap (entry_of (word_at 0 bytes) (word_at 8 bytes) (word_at 16 bytes)) h
    ∙ cond-false (nat_lt (word_at 16 bytes) (2 ^ 32)) (Some (record { offset = word_at 0 bytes; size = word_at 8 bytes; checksum = word_at 16 bytes; statistics = s })) None (le-ltb (word_at 16 bytes) (2 ^ 32) (omega (arith, c))))

pub body_made : (bytes : List ℕ) (t : PType) (n : Nullability) (count : ℕ) (es : List ChunkEntry) → type_of_word (word_at 0 bytes) ≡ Some (t, n) → length bytes / 96 ≡ count → entries_at t count (drop 8 bytes) ≡ Some es
    → body_of bytes ≡ Some (record { ptype = t; nullability = n; chunks = es })
unfolding body_of
body_made bytes t n count es f g h = rw (f, g, h) refl

pub body_missing : (e : FileError) (bytes : List ℕ) (t : PType) (n : Nullability) → type_of_word (word_at 0 bytes) ≡ Some (t, n) → IsMissing e (entries_at t (length bytes / 96) (drop 8 bytes)) → IsMissing e (body_of bytes)
unfolding body_of
body_missing errors.OutOfMemory bytes t n f h = tt
body_missing errors.BadField bytes t n f h = rw (f, h) refl
body_missing errors.TooShort bytes t n f h = absurd h
body_missing errors.BadMark bytes t n f h = absurd h
body_missing errors.BadLength bytes t n f h = absurd h
body_missing errors.BadChecksum bytes t n f h = absurd h
body_missing errors.BadPlace bytes t n f h = absurd h
body_missing errors.BadChunk bytes t n f h = absurd h
body_missing errors.TooLong bytes t n f h = absurd h
body_missing errors.ReadFault bytes t n f h = absurd h
body_missing errors.WriteFault bytes t n f h = absurd h

on_ok : {A E : Type 0} (r : Result A E) (P Q : Type 0) → (P → Q) → OnOk r P → OnOk r Q
on_ok (Ok x) P Q f h = f h
on_ok (Err e) P Q f h = h

pub four_parts : {A E : Type 0} (r : Result A E) (old a b c new W X Y Z : List ℕ) → a ≡ old ++ W → b ≡ a ++ X → c ≡ b ++ Y → OnOk r (new ≡ c ++ Z) → OnOk r (new ≡ old ++ (W ++ (X ++ (Y ++ Z))))
four_parts r old a b c new W X Y Z p q s h = on_ok r (new ≡ c ++ Z) (new ≡ old ++ (W ++ (X ++ (Y ++ Z)))) (λ e.
    e ∙ ap (λ x. x ++ Z) s ∙ ap (λ x. (x ++ Y) ++ Z) q ∙ ap (λ x. ((x ++ X) ++ Y) ++ Z) p ∙ regroup old W X Y Z) h
  where
    regroup : (o w x y z : List ℕ) → (((o ++ w) ++ x) ++ y) ++ z ≡ o ++ (w ++ (x ++ (y ++ z)))
    regroup o w x y z = simp append_assoc
