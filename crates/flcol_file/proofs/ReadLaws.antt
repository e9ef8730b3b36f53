-- Logs of reads, one after another.
use Rattle.std.proofs.Common.{◌≡◌, ℕ, zero, suc, ◌+◌, ◌++◌, List, [], ◌∷◌, map, Option, Some, None, Result, Ok, Err, IsErrAnd, ap, sym, ◌∙◌, refl, append_assoc}
use Rattle.std.specs.Prelude.{option_map, slice_index_or}
use Rattle.std.specs.List.{slice_get}
use Rattle.std.proofs.lemmas.List.{append-nil, map-append}
use Rattle.fl_file.specs.Ends.{LogGrowsBy, LogGrowsByFront, Place}
use Rattle.fl_file.specs.FileReading.{place_of}
use Rattle.fl_file.specs.declared.foot.ChunkEntry.{ChunkEntry}
use Rattle.flcol_file.specs.Chunked.{ChunkFacts, HasRead, places_of}

pub log_none : (a : Option (List Place)) → LogGrowsBy a a []
log_none None = refl
log_none (Some log) = ap (λ l. Some l) (sym (append-nil log))

pub log_on : (a b c : Option (List Place)) (xs ys : List Place) → LogGrowsBy a b xs → LogGrowsBy b c ys → LogGrowsBy a c (xs ++ ys)
log_on None b c xs ys h k = k ∙ ap (option_map (λ log. log ++ ys)) h
log_on (Some l) b c xs ys h k = k ∙ (ap (option_map (λ log. log ++ ys)) h ∙ ap (λ log. Some log) (append_assoc l xs ys))

pub places-append : (facts : ChunkFacts) (ks ls : List ℕ) → places_of facts (ks ++ ls) ≡ places_of facts ks ++ places_of facts ls
places-append facts ks ls = map-append (λ k. slice_index_or facts.places k (0, 0)) ks ls

-- reads so far, and further ones
pub read_more : (facts : ChunkFacts) (a b c : Option (List Place)) (ks ls : List ℕ) → LogGrowsBy a b (places_of facts ks) → LogGrowsBy b c (places_of facts ls) → LogGrowsBy a c (places_of facts (ks ++ ls))
read_more facts a b c ks ls h k = log_on a b c (places_of facts ks) (places_of facts ls) h k ∙ ap (λ places. option_map (λ log. log ++ places) a) (sym (places-append facts ks ls))

-- reads so far, and some first ones of further ones, are some first ones of all
pub stopped : {X Y E F : Type 0} (r : Result X E) (s : Result Y F) (e : E) (f : F) (facts : ChunkFacts) (a b c : Option (List Place)) (ks ls rest : List ℕ) → r ≡ Err e → s ≡ Err f
    → LogGrowsBy a b (places_of facts ks) → HasRead r facts b c ls → HasRead s facts a c (ks ++ (ls ++ rest))
stopped (Ok x) s e f facts a b c ks ls rest is was before here = absurd cc
stopped (Err d) (Ok y) e f facts a b c ks ls rest is was before here = absurd cc
stopped (Err d) (Err g) e f facts a b c ks ls rest is was before (done, left, parts, grows) = (
  places_of facts ks ++ done,
  left ++ places_of facts rest,
  append_assoc (places_of facts ks) done (left ++ places_of facts rest)
      ∙ (ap (λ ps. places_of facts ks ++ ps) (sym (append_assoc done left (places_of facts rest)) ∙ (ap (λ ps. ps ++ places_of facts rest) parts ∙ sym (places-append facts ls rest)))
      ∙ sym (places-append facts ks (ls ++ rest))),
  log_on a b c (places_of facts ks) done before grows,
)

-- ---- reads of one chunk
-- where a call ends, it has read what was read before
pub has_read : {X E : Type 0} (r : Result X E) (facts : ChunkFacts) (a b : Option (List Place)) (ks : List ℕ) → LogGrowsBy a b (places_of facts ks) → HasRead r facts a b ks
has_read (Ok x) facts a b ks h = h
has_read (Err e) facts a b ks h = (places_of facts ks, [], append-nil (places_of facts ks), h)

pub has_read_front : {X E : Type 0} (r : Result X E) (e : E) (facts : ChunkFacts) (a b : Option (List Place)) (ks : List ℕ) → IsErrAnd r (λ x. x ≡ e) → LogGrowsByFront a b (places_of facts ks) → HasRead r facts a b ks
has_read_front (Ok x) e facts a b ks is h = absurd is
has_read_front (Err x) e facts a b ks is h = h

-- a call that ends with another's error has read what that has read
pub has_read_on : {X Y E F : Type 0} (r : Result X E) (e : E) (s : Result Y F) (f : F) (facts now : ChunkFacts) (a b : Option (List Place)) (ks : List ℕ) → r ≡ Err e → IsErrAnd s (λ x. x ≡ f) → HasRead r facts a b ks → HasRead s facts a b ks
has_read_on (Ok x) e s f facts now a b ks is was h = absurd cc
has_read_on (Err d) e (Ok y) f facts now a b ks is was h = absurd was
has_read_on (Err d) e (Err g) f facts now a b ks is was h = h

some_same : {A : Type 0} (d e : A) → Some d ≡ Some e → d ≡ e
some_same d e h = cc

pub place_here : (es : List ChunkEntry) (k : ℕ) (e : ChunkEntry) → slice_get es k ≡ Some e → slice_index_or (map place_of es) k (0, 0) ≡ place_of e
place_here [] k e h = absurd (let wrong : None ≡ Some e = h in cc)
place_here (d ∷ es) zero e h = ap place_of (some_same d e h)
place_here (d ∷ es) (suc k) e h = place_here es k e h
