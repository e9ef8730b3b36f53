-- The bits of joined answers.
use Rattle.std.proofs.Common.{◌≡◌, ◌≢◌, ℕ, ◌+◌, ◌-◌, ◌<◌, ◌≤◌, ◌&&◌, ◌||◌, List, [], Bool, true, false, not, Option, Some, None, cond, length, get_or, set, bit_and, bit_or, below_more, get_or-set_other, get_or-set_same, refl, ap, sym, subst, ◌∙◌, arith}
use Rattle.std.specs.Int.Bits.{bit_xor}
use Rattle.std.specs.Bool.{beq}
use Rattle.fl_types.specs.Bits.{bit_of_word}
use Rattle.fl_bitmaps.specs.Answers.{and_of, or_of, xor_of}
use Rattle.fl_bitmaps.specs.declared.operators.Answers.{Answers}
use Rattle.fl_bitmaps.specs.Operators.{IsJoin, answers_at}
use Rattle.fl_bitmaps.proofs.BitLaws.{all_known, of_and, of_not, of_or, of_xor}

-- an answer by its bit and whether it is known
abbrev pub known_bit : Bool → Bool → Option Bool
known_bit known bit = cond known (Some bit) None

pub and_known : (a k b l : Bool) → known_bit (k && l || (k && not a || l && not b)) (a && b) ≡ and_of (known_bit k a) (known_bit l b)
and_known true true true true = refl
and_known true true true false = refl
and_known true true false true = refl
and_known true true false false = refl
and_known true false true true = refl
and_known true false true false = refl
and_known true false false true = refl
and_known true false false false = refl
and_known false true true true = refl
and_known false true true false = refl
and_known false true false true = refl
and_known false true false false = refl
and_known false false true true = refl
and_known false false true false = refl
and_known false false false true = refl
and_known false false false false = refl

pub or_known : (a k b l : Bool) → known_bit (k && l || (k && a || l && b)) (a || b) ≡ or_of (known_bit k a) (known_bit l b)
or_known true true true true = refl
or_known true true true false = refl
or_known true true false true = refl
or_known true true false false = refl
or_known true false true true = refl
or_known true false true false = refl
or_known true false false true = refl
or_known true false false false = refl
or_known false true true true = refl
or_known false true true false = refl
or_known false true false true = refl
or_known false true false false = refl
or_known false false true true = refl
or_known false false true false = refl
or_known false false false true = refl
or_known false false false false = refl

pub xor_known : (a k b l : Bool) → known_bit (k && l) (not (beq a b)) ≡ xor_of (known_bit k a) (known_bit l b)
xor_known a true b true = refl
xor_known a true b false = refl
xor_known a false b true = refl
xor_known a false b false = refl

-- eight answers joined bit by bit
pub and_joined : (left right : Answers) → left.bits < 256 → right.bits < 256
    → IsJoin and_of left right (record { bits = bit_and left.bits right.bits; known = bit_or (bit_and left.known right.known) (bit_or (bit_and left.known (255 - left.bits)) (bit_and right.known (255 - right.bits))) })
unfolding IsJoin
and_joined left right small low j h =
    let known = of_or (bit_and left.known right.known) (bit_or (bit_and left.known (255 - left.bits)) (bit_and right.known (255 - right.bits))) j in
    let both = of_and left.known right.known j in
    let denied = of_or (bit_and left.known (255 - left.bits)) (bit_and right.known (255 - right.bits)) j in
    let one = of_and left.known (255 - left.bits) j in
    let other = of_and right.known (255 - right.bits) j in
    let turned = of_not left.bits j small h in
    let other_turned = of_not right.bits j low h in
    let bits = of_and left.bits right.bits j in
    rw (known, both, denied, one, other, turned, other_turned, bits) (and_known (bit_of_word left.bits j) (bit_of_word left.known j) (bit_of_word right.bits j) (bit_of_word right.known j))

pub or_joined : (left right : Answers)
    → IsJoin or_of left right (record { bits = bit_or left.bits right.bits; known = bit_or (bit_and left.known right.known) (bit_or (bit_and left.known left.bits) (bit_and right.known right.bits)) })
unfolding IsJoin
or_joined left right j h =
    let known = of_or (bit_and left.known right.known) (bit_or (bit_and left.known left.bits) (bit_and right.known right.bits)) j in
    let both = of_and left.known right.known j in
    let granted = of_or (bit_and left.known left.bits) (bit_and right.known right.bits) j in
    let one = of_and left.known left.bits j in
    let other = of_and right.known right.bits j in
    let bits = of_or left.bits right.bits j in
    rw (known, both, granted, one, other, bits) (or_known (bit_of_word left.bits j) (bit_of_word left.known j) (bit_of_word right.bits j) (bit_of_word right.known j))

pub xor_joined : (left right : Answers) → IsJoin xor_of left right (record { bits = bit_xor left.bits right.bits; known = bit_and left.known right.known })
unfolding IsJoin
xor_joined left right j h =
    let both = of_and left.known right.known j in
    let bits = of_xor left.bits right.bits j in
    rw (both, bits) (xor_known (bit_of_word left.bits j) (bit_of_word left.known j) (bit_of_word right.bits j) (bit_of_word right.known j))

-- known answers are joined to a known one, whose bit is the one that was made
pub joined_known : (join : Option Bool → Option Bool → Option Bool) → ((a b : Bool) → (c : Bool) × (join (Some a) (Some b) ≡ Some c)) → (a b : ℕ) (made : Answers)
    → IsJoin join (record { bits = a; known = 255 }) (record { bits = b; known = 255 }) made → IsJoin join (record { bits = a; known = 255 }) (record { bits = b; known = 255 }) (record { bits = made.bits; known = 255 })
unfolding IsJoin
joined_known join known a b made joined j h =
    let set = all_known j h in
    let here : known_bit (bit_of_word made.known j) (bit_of_word made.bits j) ≡ join (Some (bit_of_word a j)) (Some (bit_of_word b j)) = joined j h ∙ (rw set refl) in
    let is = known (bit_of_word a j) (bit_of_word b j) in
    rw set (ap (λ (x : Bool). Some x) (bit_if_known (bit_of_word made.known j) (bit_of_word made.bits j) is.0 (here ∙ is.1)) ∙ sym is.1)
  where
    bit_if_known : (known bit c : Bool) → known_bit known bit ≡ Some c → bit ≡ c
    bit_if_known true bit c e = cc
    bit_if_known false bit c e = absurd (let wrong : ⊥ = cc in wrong)

-- one more byte of known answers is joined
pub known_more : (join : Option Bool → Option Bool → Option Bool) (first bits other : List ℕ) (k byte : ℕ) → k < length bits → ((i : ℕ) → k ≤ i → get_or bits i 0 ≡ get_or first i 0)
    → IsJoin join (record { bits = get_or bits k 0; known = 255 }) (record { bits = get_or other k 0; known = 255 }) (record { bits = byte; known = 255 })
    → ((i : ℕ) → i < k → IsJoin join (answers_at first [] i) (answers_at other [] i) (answers_at bits [] i)) → (i : ℕ) → i < k + 1 → IsJoin join (answers_at first [] i) (answers_at other [] i) (answers_at (set bits k byte) [] i)
known_more join first bits other k byte within before here each = below_more (λ i. IsJoin join (answers_at first [] i) (answers_at other [] i) (answers_at (set bits k byte) [] i)) k
    (λ i h. let ne : i ≢ k = omega arith in subst (λ (b : ℕ). IsJoin join (answers_at first [] i) (answers_at other [] i) (record { bits = b; known = 255 })) (sym (get_or-set_other bits k i byte 0 ne)) (each i h))
    (subst (λ (b : ℕ). IsJoin join (answers_at first [] k) (answers_at other [] k) (record { bits = b; known = 255 })) (sym (get_or-set_same bits k byte 0 within))
    (subst (λ (b : ℕ). IsJoin join (record { bits = b; known = 255 }) (answers_at other [] k) (record { bits = byte; known = 255 })) (before k (omega arith)) here))
