-- Groups that are written one after the other.
use Rattle.std.proofs.Common.{◌≡◌, ℕ, suc, ◌+◌, ◌-◌, ◌/◌, ◌%◌, ◌<◌, ◌≤◌, List, [], ◌∷◌, ◌++◌, refl, sym, ◌∙◌, append_assoc, arith}
use Rattle.std.proofs.lemmas.Bool.{lt-ltb, le-ltb}
use Rattle.fl_metadata.specs.WrittenText.{groups_text}

pub last_group : (i n : ℕ) (out : List ℕ) → i < 10 → n < 128 → out ++ n ∷ [] ≡ out ++ groups_text (10 - i) n
unfolding groups_text
last_group i n out lt small =
    let k : 10 - i ≡ suc (10 - (i + 1)) = omega arith in
    rw (k, lt-ltb n 128 small) refl

pub next_group : (i n : ℕ) (out : List ℕ) → i < 10 → 128 ≤ n → (out ++ (n % 128 + 128) ∷ []) ++ groups_text (10 - (i + 1)) (n / 128) ≡ out ++ groups_text (10 - i) n
unfolding groups_text
next_group i n out lt large =
    let k : 10 - i ≡ suc (10 - (i + 1)) = omega arith in
    append_assoc out ((n % 128 + 128) ∷ []) (groups_text (10 - (i + 1)) (n / 128)) ∙ sym (rw (k, le-ltb n 128 large) refl)

pub no_group : (i n : ℕ) (out : List ℕ) → 10 ≤ i → out ++ groups_text (10 - i) n ≡ out ++ []
unfolding groups_text
no_group i n out le = let k : 10 - i ≡ 0 = omega arith in rw k refl
