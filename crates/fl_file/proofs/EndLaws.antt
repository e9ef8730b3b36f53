-- Bytes that are written one after another.
use Rattle.std.proofs.Common.{◌≡◌, ℕ, ◌+◌, ◌<◌, ◌++◌, min, List, length, take, replicate, Option, None, Some, Result, Ok, Err, IfSome, inl, inr, ap, sym, ◌∙◌, arith, append_assoc}
use Rattle.std.specs.Prelude.{OnErr, OnOk}
use Rattle.std.specs.Io.KnownBytes.{append_known}
use Rattle.std.proofs.Math.Seq.{take-append-add}
use Rattle.std.proofs.lemmas.Bool.{cases_lt}
use Rattle.std.proofs.lemmas.List.{length-replicate, take-append-le, take-replicate, take_all}
use Rattle.fl_file.specs.declared.ends.WriteFault.{WriteFault}
use Rattle.fl_file.specs.declared.writer.TheConstants.{ZEROS}
use Rattle.fl_file.specs.Ends.{GrowsBy, GrowsByFront}
use Rattle.fl_file.specs.Files.{padded}

pub grown : (a b c : Option (List ℕ)) (xs ys : List ℕ) → GrowsBy a b xs → GrowsBy b c ys → GrowsBy a c (xs ++ ys)
grown None b c xs ys p q = rw p at q
grown (Some x) b c xs ys p q = (rw p at q) ∙ ap (λ l. Some l) (append_assoc x xs ys)

-- ---- zeros
pub zeros_are : (n : ℕ) → n < 64 → take n ZEROS ≡ replicate n 0
zeros_are n h = take-replicate n 64 0 (omega arith)

no_more : (n k : ℕ) → take {A = ℕ} (min k n) (replicate n 0) ≡ take k (replicate n 0)
no_more n k =
    let len : length (replicate {A = ℕ} n 0) ≡ n = length-replicate n 0 in
    elim (cases_lt k n) [
      | inl less ↦ (let same : min k n ≡ k = omega arith in ap (λ m. take {A = ℕ} m (replicate n 0)) same)
      | inr more ↦ take_all (min k n) (replicate n 0) (omega arith) ∙ sym (take_all k (replicate n 0) (omega arith))
    ]

-- a beginning of zeros is one of zeros with bytes behind them
pub front_of_zeros : (a b : Option (List ℕ)) (n : ℕ) (bytes : List ℕ) → GrowsByFront a b (replicate n 0) → GrowsByFront a b (padded n bytes)
front_of_zeros a b n bytes p =
    let len : length (replicate {A = ℕ} n 0) ≡ n = length-replicate n 0 in
    let same : take p.0 (replicate n 0) ≡ take (min p.0 n) (replicate n 0 ++ bytes) = sym (take-append-le (min p.0 n) (replicate n 0) bytes (omega arith) ∙ no_more n p.0) in
    (min p.0 n, p.1 ∙ ap (append_known a) same)

pub front_behind_zeros : (a b c : Option (List ℕ)) (n : ℕ) (bytes : List ℕ) → GrowsBy a b (replicate n 0) → GrowsByFront b c bytes → GrowsByFront a c (padded n bytes)
front_behind_zeros a b c n bytes p q =
    let same : replicate n 0 ++ take q.0 bytes ≡ take (length (replicate n 0) + q.0) (replicate n 0 ++ bytes) = sym (take-append-add (replicate n 0) bytes q.0) in
    (length (replicate n 0) + q.0, grown a b c (replicate n 0) (take q.0 bytes) p q.1 ∙ ap (append_known a) same)

pub front_after : (r : Result (Unit {0}) WriteFault) (a b c : Option (List ℕ)) (n : ℕ) (bytes : List ℕ) → GrowsBy a b (replicate n 0) → OnErr r (GrowsByFront b c bytes) → OnErr r (GrowsByFront a c (padded n bytes))
front_after (Ok x) a b c n bytes p q = q
front_after (Err e) a b c n bytes p q = front_behind_zeros a b c n bytes p q

pub all_after : (r : Result (Unit {0}) WriteFault) (a b c : Option (List ℕ)) (n : ℕ) (bytes : List ℕ) → GrowsBy a b (replicate n 0) → OnOk r (GrowsBy b c bytes) → OnOk r (GrowsBy a c (padded n bytes))
all_after (Ok x) a b c n bytes p q = grown a b c (replicate n 0) bytes p q
all_after (Err e) a b c n bytes p q = q

-- ---- what a sink holds
pub extended : (a b : Option (List ℕ)) (before more : List ℕ) → IfSome a (λ bytes. bytes ≡ before) → GrowsBy a b more → IfSome b (λ bytes. bytes ≡ before ++ more)
extended None b before more h p = rw p tt
extended (Some x) b before more h p = rw p (ap (λ l. l ++ more) h)

pub extended_front : (a b : Option (List ℕ)) (before more : List ℕ) → IfSome a (λ bytes. bytes ≡ before) → GrowsByFront a b more → (k : ℕ) × IfSome b (λ bytes. bytes ≡ before ++ take k more)
extended_front a b before more h p = (p.0, extended a b before (take p.0 more) h p.1)
