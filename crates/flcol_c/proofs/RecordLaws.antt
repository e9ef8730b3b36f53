-- Records of chunks, written and read one by one.
use Rattle.std.proofs.Common.{◌≡◌, ℕ, zero, suc, ◌+◌, ◌≤◌, ◌<◌, List, [], ◌∷◌, ◌++◌, length, map, take, drop, get_or, set, Option, None, Some, ap, sym, ◌∙◌, append_assoc, refl, arith}
use Rattle.std.proofs.lemmas.List.{append-nil, at_drop_more, map-append, take_all, take_more_set}
use Rattle.fl_types.specs.declared.dtype.PType.{PType}
use Rattle.fl_column.proofs.ItemLaws.{map_read}
use Rattle.fl_file.specs.declared.foot.ChunkEntry.{ChunkEntry}
use Rattle.fl_file.specs.FootReading.{◌>>=◌}
use Rattle.fl_file.proofs.FootSteps.{with_entries}
use Rattle.flcol_c.specs.declared.records.ChunkRecord.{ChunkRecord}
use Rattle.flcol_c.specs.Records.{entries_said, entry_said, fields_in}

-- a loop has written of one element more what is made of it
pub one_more : {X Y Z : Type 0} (see : Y → Z) (make : X → Z) (xs : List X) (ys : List Y) (i : ℕ) (x : X) (y : Y) → i < length xs → i < length ys → x ≡ get_or xs i x → see y ≡ make x
    → map see (take i ys) ≡ map make (take i xs) → map see (take (i + 1) (set ys i y)) ≡ map make (take (i + 1) xs)
one_more see make xs ys i x y h room read is so_far =
    ap (map see) (take_more_set ys i y room) ∙ map-append see (take i ys) (y ∷ []) ∙ ap (λ l. l ++ see y ∷ []) so_far ∙ ap (λ z. map make (take i xs) ++ z ∷ []) is ∙ sym (map_read make xs i x h read)

-- of each
pub all_written : {X Y Z : Type 0} (see : Y → Z) (make : X → Z) (xs : List X) (ys : List Y) (i : ℕ) → length xs ≤ i → length ys ≡ length xs → map see (take i ys) ≡ map make (take i xs) → map see ys ≡ map make xs
all_written see make xs ys i h long so_far = sym (ap (map see) (take_all i ys (omega arith))) ∙ so_far ∙ ap (map make) (take_all i xs h)

pub seen_alike : {X : Type 0} (xs : List X) → map (λ x. x) xs ≡ xs
seen_alike [] = refl
seen_alike (x ∷ xs) = ap (λ l. x ∷ l) (seen_alike xs)

-- ---- what records say
regrouped : (front : List ChunkEntry) (e : ChunkEntry) (said : Option (List ChunkEntry)) → with_entries front (said >>= λ others. Some (e ∷ others)) ≡ with_entries (front ++ e ∷ []) said
regrouped front e None = refl
regrouped front e (Some es) = ap (λ x. Some x) (sym (append_assoc front (e ∷ []) es))

-- one record further
pub said_more : (t : PType) (front : List ChunkEntry) (records : List ChunkRecord) (i : ℕ) (r : ChunkRecord) (e : ChunkEntry) (total : Option (List ChunkEntry)) → i < length records → r ≡ get_or records i r → entry_said t (fields_in r) ≡ Some e
    → with_entries front (entries_said t (drop i records)) ≡ total → with_entries (front ++ e ∷ []) (entries_said t (drop (i + 1) records)) ≡ total
said_more t front records i r e total h read is so_far =
    sym (regrouped front e (entries_said t (drop (i + 1) records)))
    ∙ ap (λ (first : Option ChunkEntry). with_entries front (first >>= λ f. entries_said t (drop (i + 1) records) >>= λ others. Some (f ∷ others))) (sym is)
    ∙ ap (λ (x : ChunkRecord). with_entries front (entries_said t (x ∷ drop (i + 1) records))) read
    ∙ sym (at_drop_more (λ l. with_entries front (entries_said t l)) records i r h) ∙ so_far

-- a record that says no chunk
pub said_none : (t : PType) (front : List ChunkEntry) (records : List ChunkRecord) (i : ℕ) (r : ChunkRecord) (total : Option (List ChunkEntry)) → i < length records → r ≡ get_or records i r → entry_said t (fields_in r) ≡ None
    → with_entries front (entries_said t (drop i records)) ≡ total → total ≡ None
said_none t front records i r total h read is so_far =
    sym so_far ∙ at_drop_more (λ l. with_entries front (entries_said t l)) records i r h
    ∙ ap (λ (x : ChunkRecord). with_entries front (entries_said t (x ∷ drop (i + 1) records))) (sym read)
    ∙ ap (λ (first : Option ChunkEntry). with_entries front (first >>= λ f. entries_said t (drop (i + 1) records) >>= λ others. Some (f ∷ others))) is

past : (records : List ChunkRecord) (i : ℕ) → length records ≤ i → drop i records ≡ []
past [] zero h = refl
past [] (suc i) h = refl
past (r ∷ rs) zero h = absurd (omega arith)
past (r ∷ rs) (suc i) h = past rs i (omega arith)

-- no record is left
pub said_all : (t : PType) (front : List ChunkEntry) (records : List ChunkRecord) (i : ℕ) (total : Option (List ChunkEntry)) → length records ≤ i → with_entries front (entries_said t (drop i records)) ≡ total → total ≡ Some front
said_all t front records i total h so_far = sym so_far ∙ ap (λ l. with_entries front (entries_said t l)) (past records i h) ∙ ap (λ x. Some x) (append-nil front)
