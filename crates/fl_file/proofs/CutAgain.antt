-- The foot of a file behind which other bytes stand.
use Rattle.std.proofs.Common.{◌≡◌, ℕ, zero, suc, ◌+◌, ◌-◌, ◌*◌, ◌/◌, ◌%◌, ◌≤◌, ◌<◌, ◌++◌, Bool, true, false, cond, nat_lt, not, codes, List, length, take, drop, Option, Some, None, Result, Ok, Err, refl, sym, ap, ◌∙◌, length-append, arith, subst, inl, inr}
use Rattle.std.specs.Prelude.{◌≢◌, ◌⊎◌, IsTrue, ⊤, bytes_eq}
use Rattle.std.proofs.lemmas.Bool.{cases_lt, le-ltb, lt-ltb}
use Rattle.std.proofs.lemmas.List.{take-append-le}
use Rattle.fl_types.specs.Bits.{between}
use Rattle.fl_file.specs.declared.error.FileError.{FileError}
use Rattle.fl_file.specs.declared.error.FileError.TheVariants as errors
use Rattle.fl_file.specs.FileLaws.{HasNoFootBehind}
use Rattle.fl_file.specs.FileReading.{IsFoundFrom, IsRefused, RefusesFrom, begun, foot_before, foot_of_file, found_or, last_foot, last_foot_of_file}
use Rattle.fl_file.specs.Foot.{FootParts}
use Rattle.fl_file.proofs.ReaderLaws.{foot_lies, lie_before}
use Rattle.fl_file.specs.FootReading.{body_of, foot_len_of, foot_of, foot_with_len, len_at_end, lie_between, placed, then_with, word_at}

-- ---- no foot is refused for a read that failed
abbrev IsNoFault : {Y : Type 0} → Result Y FileError → Type 0
IsNoFault (Err errors.ReadFault) = ⊥
IsNoFault other = ⊤

either : {Y : Type 0} (b : Bool) (x y : Result Y FileError) → IsNoFault x → IsNoFault y → IsNoFault (cond b x y)
either true x y p q = p
either false x y p q = q

placed_is : (end : ℕ) (found : Option FootParts) → IsNoFault (placed end found)
placed_is end None = tt
placed_is end (Some f) = either (lie_between 4 end f.chunks) (Ok f) (Err errors.BadPlace) tt tt

then_is : {X Y : Type 0} (r : Result X FileError) (f : X → Result Y FileError) → IsNoFault r → ((x : X) → IsNoFault (f x)) → IsNoFault (then_with r f)
then_is (Ok x) f p q = q x
then_is (Err errors.OutOfMemory) f p q = tt
then_is (Err errors.ReadFault) f p q = p
then_is (Err errors.TooShort) f p q = tt
then_is (Err errors.BadMark) f p q = tt
then_is (Err errors.BadLength) f p q = tt
then_is (Err errors.BadChecksum) f p q = tt
then_is (Err errors.BadField) f p q = tt
then_is (Err errors.BadPlace) f p q = tt
then_is (Err errors.BadChunk) f p q = tt
then_is (Err errors.TooLong) f p q = tt
then_is (Err errors.WriteFault) f p q = tt

len_is : (end : List ℕ) (n : ℕ) → IsNoFault (len_at_end end n)
unfolding len_at_end
len_is end n =
    let size = word_at 16 end in
    either (not (bytes_eq (drop 24 end) (codes "FLC2"))) (Err errors.BadMark) _ tt (either _ (Ok size) (Err errors.BadLength) tt tt)

foot_is : (bytes : List ℕ) (end : ℕ) → IsNoFault (foot_of bytes end)
foot_is bytes end =
    then_is (foot_len_of bytes end) (foot_with_len bytes end) (either _ (Err errors.TooShort) (len_at_end (drop (length bytes - 28) bytes) (length bytes)) tt (len_is (drop (length bytes - 28) bytes) (length bytes)))
    (λ size. either _ (placed (end - 12 - size) (body_of (between (length bytes - 12 - size) (length bytes - 20) bytes))) (Err errors.BadChecksum) (placed_is (end - 12 - size) (body_of (between (length bytes - 12 - size) (length bytes - 20) bytes))) tt)

no_fault : {Y : Type 0} (r : Result Y FileError) → IsNoFault r → r ≢ Err errors.ReadFault
no_fault r p h = subst IsNoFault h p

-- ---- the search
pub one_down : (bytes : List ℕ) (count i : ℕ) → i < count → IsRefused (foot_before bytes (64 * (count - i))) → last_foot bytes (count - i) ≡ last_foot bytes count → last_foot bytes (count - (i + 1)) ≡ last_foot bytes count
one_down bytes count i more refused so_far =
    let k : count - i ≡ suc (count - (i + 1)) = omega arith in
    let step : last_foot bytes (suc (count - (i + 1))) ≡ last_foot bytes (count - (i + 1)) = found_none (foot_before bytes (64 * suc (count - (i + 1)))) (last_foot bytes (count - (i + 1))) (subst (λ n. IsRefused (foot_before bytes (64 * n))) k refused) in
    sym step ∙ ap (last_foot bytes) (sym k) ∙ so_far
  where
    found_none : (r other : Result FootParts FileError) → IsRefused r → found_or r other ≡ other
    found_none (Ok x) other h = absurd h
    found_none (Err e) other h = refl

pub found_here : (bytes : List ℕ) (count i : ℕ) (foot : FootParts) → i < count → foot_before bytes (64 * (count - i)) ≡ Ok foot → last_foot bytes (count - i) ≡ last_foot bytes count → last_foot bytes count ≡ Ok foot
found_here bytes count i foot more found so_far =
    let k : count - i ≡ suc (count - (i + 1)) = omega arith in
    sym so_far ∙ ap (last_foot bytes) k ∙ ap (λ r. found_or r (last_foot bytes (count - (i + 1)))) (sym (ap (λ n. foot_before bytes (64 * n)) k) ∙ found)

pub none_at_all : (bytes : List ℕ) (count i : ℕ) → count ≤ i → last_foot bytes (count - i) ≡ last_foot bytes count → last_foot bytes count ≡ Err errors.BadMark
none_at_all bytes count i past so_far = let k : count - i ≡ 0 = omega arith in sym so_far ∙ ap (last_foot bytes) k

pub search_failed : {X : Type 0} (fails : Bool) (e : FileError) (view : X → FootParts) (bytes : List ℕ) (end : ℕ) (read : Result FootParts FileError) → IsFoundFrom fails view (Err e) (foot_before bytes end) → RefusesFrom fails e read
search_failed fails errors.OutOfMemory view bytes end read h = tt
search_failed fails errors.ReadFault view bytes end read h = λ f. absurd (no_fault (foot_before bytes end) (foot_is (take end bytes) end) (h f))
search_failed fails errors.TooShort view bytes end read h = absurd h
search_failed fails errors.BadMark view bytes end read h = absurd h
search_failed fails errors.BadLength view bytes end read h = absurd h
search_failed fails errors.BadChecksum view bytes end read h = absurd h
search_failed fails errors.BadField view bytes end read h = absurd h
search_failed fails errors.BadPlace view bytes end read h = absurd h
search_failed fails errors.BadChunk view bytes end read h = absurd h
search_failed fails errors.TooLong view bytes end read h = absurd h
search_failed fails errors.WriteFault view bytes end read h = absurd h

one_of : (r other : Result FootParts FileError) (foot : FootParts) → found_or r other ≡ Ok foot → (r ≡ Ok foot) ⊎ (other ≡ Ok foot)
one_of (Ok x) other foot h = inl h
one_of (Err e) other foot h = inr h

-- the chunks of a foot that is found lie within the bytes
pub last_lies : (bytes : List ℕ) (k : ℕ) (foot : FootParts) → 64 * k ≤ length bytes → last_foot bytes k ≡ Ok foot → IsTrue (lie_between 4 (length bytes) foot.chunks)
last_lies bytes zero foot within h = absurd cc
last_lies bytes (suc k) foot within h = elim (one_of (foot_before bytes (64 * suc k)) (last_foot bytes k) foot h) [
  | inl here ↦ lie_before 4 (64 * suc k) (length bytes) foot.chunks within (foot_lies bytes (64 * suc k) foot here)
  | inr below ↦ last_lies bytes k foot (omega arith) below
]

-- ---- a foot with bytes behind it
refused_of : (r : Result FootParts FileError) → ((foot : FootParts) → r ≢ Ok foot) → IsRefused r
refused_of (Ok x) h = h x refl
refused_of (Err e) h = tt

find : (bytes : List ℕ) (n m k : ℕ) (foot : FootParts) → n ≡ 64 * suc m → HasNoFootBehind n bytes → foot_before bytes n ≡ Ok foot → 64 * (suc m + k) ≤ length bytes → last_foot bytes (suc m + k) ≡ Ok foot
find bytes n m zero foot is none found within = let e : suc m + 0 ≡ suc m = omega arith in ap (last_foot bytes) e ∙ ap (λ r. found_or r (last_foot bytes m)) (ap (foot_before bytes) (sym is) ∙ found)
find bytes n m (suc k) foot is none found within =
    let next : suc m + suc k - 0 ≡ suc (suc m + k) = omega arith in
    let refused = refused_of (foot_before bytes (64 * (suc m + suc k - 0))) (λ f. none (suc m + suc k - 0) f (omega arith) (omega arith)) in
    let whole : suc m + suc k - 0 ≡ suc m + suc k = omega arith in
    let start : last_foot bytes (suc m + suc k - 0) ≡ last_foot bytes (suc m + suc k) = ap (last_foot bytes) whole in
    let same : suc m + suc k - (0 + 1) ≡ suc m + k = omega arith in
    sym (one_down bytes (suc m + suc k) 0 (omega arith) refused start) ∙ ap (last_foot bytes) same ∙ find bytes n m k foot is none found (omega arith)

begun_by : (short marked : Bool) (n : ℕ) (foot : FootParts) (f : ℕ → Result FootParts FileError) → then_with (cond short (Err errors.TooShort) (cond marked (Ok n) (Err errors.BadMark))) f ≡ Ok foot → (short ≡ false) × (marked ≡ true) × (f n ≡ Ok foot)
begun_by true marked n foot f h = absurd cc
begun_by false true n foot f h = (refl, refl, h)
begun_by false false n foot f h = absurd cc

long_enough : (n : ℕ) → nat_lt n 28 ≡ false → 28 ≤ n
long_enough n h = elim (cases_lt n 28) [
  | inl short ↦ absurd (let wrong : nat_lt n 28 ≡ true = lt-ltb n 28 short in cc)
  | inr long ↦ long
]

pub cut_again : (file left : List ℕ) (foot : FootParts) → foot_of_file file ≡ Ok foot → length file % 64 ≡ 0 → HasNoFootBehind (length file) (file ++ left) → last_foot_of_file (file ++ left) ≡ Ok foot
cut_again file left foot h aligned none =
    let n = length file in
    let parts = begun_by (nat_lt n 28) (bytes_eq (take 4 file) (codes "FLC2")) n foot (foot_before file) h in
    let long : 28 ≤ n = long_enough n parts.0 in
    let all : length (file ++ left) ≡ n + length left = length-append file left in
    let long' : nat_lt (length (file ++ left)) 28 ≡ false = le-ltb (length (file ++ left)) 28 (omega arith) in
    let mark : bytes_eq (take 4 (file ++ left)) (codes "FLC2") ≡ true = ap (λ l. bytes_eq l (codes "FLC2")) (take-append-le 4 file left (omega arith)) ∙ parts.1 in
    let front : take n (file ++ left) ≡ take n file = take-append-le n file left (omega arith) in
    let found : foot_before (file ++ left) n ≡ Ok foot = ap (λ l. foot_of l n) front ∙ parts.2 in
    let m = n / 64 - 1 in
    let k = length (file ++ left) / 64 - n / 64 in
    let count : length (file ++ left) / 64 ≡ suc m + k = omega arith in
    let begins : begun (file ++ left) ≡ Ok (length (file ++ left)) = rw (long', mark) refl in
    ap (λ r. then_with r (λ c. last_foot (file ++ left) (c / 64))) begins ∙ ap (last_foot (file ++ left)) count
    ∙ find (file ++ left) n m k foot (omega arith) none found (omega arith)
