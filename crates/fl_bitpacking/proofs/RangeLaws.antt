-- Ranges of integers, and the wrapped test of their patterns.
use Rattle.std.proofs.Common.{◌≡◌, ℕ, ℤ, pos, negsuc, suc, ◌+◌, ◌-◌, ◌%◌, ◌^◌, ◌<◌, ◌≤◌, Bool, true, false, cond, nat_lt, nat_le, int_le, not, refl, ap, sym, ◌∙◌, inl, inr, arith}
use Rattle.std.specs.Prelude.{◌&&◌, Option, Some, None, ◌+ℤ◌, ◌-ℤ◌, ◌≤ℤ◌, ◌<ℤ◌, ◌⊎◌}
use Rattle.std.proofs.Math.Nat.{mod-eq_of_lt, add-mod_right}
use Rattle.std.proofs.lemmas.Bool.{cases_lt, le-leb, lt-ltb, le-ltb, lt-leb}
use Rattle.std.proofs.lemmas.Int.{ints, by_lt_z}
use Rattle.fl_types.specs.declared.dtype.PType.{PType}
use Rattle.fl_types.specs.declared.dtype.PType.TheVariants.{U8, U16, U32, U64, I8, I16, I32, I64}
use Rattle.fl_types.specs.declared.scalar.PValue.{PValue}
use Rattle.fl_types.specs.Integers.{bits_of_type, pattern_of, read_as, wrap}
use Rattle.fl_types.specs.Values.{integer_of, ptype_of_value}
use Rattle.fl_codec.proofs.Congruence.{pattern_small}
use Rattle.fl_codec.proofs.FoRRoundTrips.{wrap-wrap_left, wrap-wrap_right}
use Rattle.fl_bitpacking.proofs.BlockSums.{sum_read}
use Rattle.fl_bitpacking.specs.LeastIntegers.{least_of}
use Rattle.std.proofs.Math.Pow.{pow_mono}
use Rattle.std.proofs.lemmas.Nat.{mod_below, pow_pos}
use Rattle.fl_bitpacking.specs.declared.compute.range_test.RangeTest.{RangeTest}
use Rattle.fl_bitpacking.specs.declared.compute.range_test.PatternTest.{PatternTest}
use Rattle.fl_bitpacking.specs.RangeTests.{TestsPatterns, TestsRange, answer_of, in_range, is_from, is_up_to, passes, sum_with}

pub true_le : (a b : ℤ) → a ≤ℤ b → int_le a b ≡ true
true_le a b h = grind (arith, ints)

pub false_le : (a b : ℤ) → b <ℤ a → int_le a b ≡ false
false_le a b h = grind (arith, ints)

-- ---- ends of ranges

-- ---- patterns
-- what is left of a number below twice m
halved : (d m : ℕ) → d < m + m → ((d < m) × (d % m ≡ d)) ⊎ ((m ≤ d) × (d % m + m ≡ d))
halved d m h = elim (cases_lt d m) [
  | inl below ↦ inl (below, mod-eq_of_lt below)
  | inr above ↦
      let split : d ≡ d - m + m = omega arith in
      let less : d % m ≡ d - m = ap (λ (n : ℕ). n % m) split ∙ (add-mod_right (d - m) m ∙ mod-eq_of_lt (omega arith)) in
      inr (above, omega arith)
]

-- how far z is above a, where it is
above_by : (m p low : ℕ) (z a : ℤ) → p < m → low < m → a ≤ℤ z → z <ℤ (a +ℤ pos m) → (pos p ≡ z) ⊎ (pos p ≡ z +ℤ pos m) → (pos low ≡ a) ⊎ (pos low ≡ a +ℤ pos m) → pos ((p + (m - low)) % m) ≡ z -ℤ a
above_by m p low z a small small_low above near here there = elim (halved (p + (m - low)) m (omega arith)) [
  | inl w ↦ elim here [ inl e ↦ elim there [ inl f ↦ omega (arith, ints, w.0, w.1) | inr f ↦ omega (arith, ints, w.0, w.1) ] | inr e ↦ elim there [ inl f ↦ omega (arith, ints, w.0, w.1) | inr f ↦ omega (arith, ints, w.0, w.1) ] ]
  | inr w ↦ elim here [ inl e ↦ elim there [ inl f ↦ omega (arith, ints, w.0, w.1) | inr f ↦ omega (arith, ints, w.0, w.1) ] | inr e ↦ elim there [ inl f ↦ omega (arith, ints, w.0, w.1) | inr f ↦ omega (arith, ints, w.0, w.1) ] ]
]

-- and where it is below
below_by : (m p low : ℕ) (z a : ℤ) → p < m → low < m → z <ℤ a → a <ℤ (z +ℤ pos m) → (pos p ≡ z) ⊎ (pos p ≡ z +ℤ pos m) → (pos low ≡ a) ⊎ (pos low ≡ a +ℤ pos m) → pos ((p + (m - low)) % m) ≡ z -ℤ a +ℤ pos m
below_by m p low z a small small_low below near here there = elim (halved (p + (m - low)) m (omega arith)) [
  | inl w ↦ elim here [ inl e ↦ elim there [ inl f ↦ omega (arith, ints, w.0, w.1) | inr f ↦ omega (arith, ints, w.0, w.1) ] | inr e ↦ elim there [ inl f ↦ omega (arith, ints, w.0, w.1) | inr f ↦ omega (arith, ints, w.0, w.1) ] ]
  | inr w ↦ elim here [ inl e ↦ elim there [ inl f ↦ omega (arith, ints, w.0, w.1) | inr f ↦ omega (arith, ints, w.0, w.1) ] | inr e ↦ elim there [ inl f ↦ omega (arith, ints, w.0, w.1) | inr f ↦ omega (arith, ints, w.0, w.1) ] ]
]

-- the wrapped test of a pattern is the test of its integer
pub range_at : (m p low span : ℕ) (l z a b : ℤ) → p < m → low < m → l ≤ℤ a → a ≤ℤ b → b <ℤ (l +ℤ pos m) → l ≤ℤ z → z <ℤ (l +ℤ pos m)
    → (pos p ≡ z) ⊎ (pos p ≡ z +ℤ pos m) → (pos low ≡ a) ⊎ (pos low ≡ a +ℤ pos m) → pos span ≡ b -ℤ a → nat_le ((p + (m - low)) % m) span ≡ (int_le a z && int_le z b)
range_at m p low span l z a b small small_low la ab bl lz zl here there long = by_lt_z z a
    (λ below.
    let far = below_by m p low z a small small_low below (omega (arith, ints)) here there in
    rw (false_le a z below) (lt-leb ((p + (m - low)) % m) span (omega (arith, ints))))
    (λ above.
    let far = above_by m p low z a small small_low above (omega (arith, ints)) here there in
    rw (true_le a z above) (by_lt_z b z
    (λ out. rw (false_le z b out) (lt-leb ((p + (m - low)) % m) span (omega (arith, ints))))
    (λ inside. rw (true_le z b inside) (le-leb ((p + (m - low)) % m) span (omega (arith, ints))))))

-- an integer that is read from a pattern
pub record IsRead (m p : ℕ) (l z : ℤ) : Type 0 where
  pub low : l ≤ℤ z
  pub high : z <ℤ (l +ℤ pos m)
  pub same : (pos p ≡ z) ⊎ (pos p ≡ z +ℤ pos m)

read_unsigned : (m p : ℕ) (z : ℤ) → p < m → z ≡ pos (p % m) → IsRead m p (pos 0) z
read_unsigned m p z small is =
    let whole : p % m ≡ p = mod-eq_of_lt small in
    let same : z ≡ pos p = is ∙ ap pos whole in
    record { low = omega (arith, ints); high = omega (arith, ints); same = inl (sym same) }

read_signed : (m half p : ℕ) (z : ℤ) → p < m → m ≡ half + half → z ≡ cond (nat_lt (p % m) half) (pos (p % m)) (negsuc (m - suc (p % m))) → IsRead m p (negsuc (half - 1)) z
read_signed m half p z small even is =
    let whole : p % m ≡ p = mod-eq_of_lt small in
    let same : z ≡ cond (nat_lt p half) (pos p) (negsuc (m - suc p)) = is ∙ ap (λ (n : ℕ). cond (nat_lt n half) (pos n) (negsuc (m - suc n))) whole in
    elim (cases_lt p half) [
      | inl below ↦
          let plain : z ≡ pos p = same ∙ (rw (lt-ltb p half below) refl) in
          record { low = omega (arith, ints); high = omega (arith, ints); same = inl (sym plain) }
      | inr above ↦
          let less : z ≡ negsuc (m - suc p) = same ∙ (rw (le-ltb p half above) refl) in
          record { low = omega (arith, ints); high = omega (arith, ints); same = inr (omega (arith, ints)) }
    ]

pub reads : (t : PType) (p : ℕ) → p < 2 ^ bits_of_type t → IsRead (2 ^ bits_of_type t) p (least_of t) (read_as t p)
reads U8 p h = read_unsigned (2 ^ 8) p _ h refl
reads U16 p h = read_unsigned (2 ^ 16) p _ h refl
reads U32 p h = read_unsigned (2 ^ 32) p _ h refl
reads U64 p h = read_unsigned (2 ^ 64) p _ h refl
reads I8 p h = read_signed (2 ^ 8) (2 ^ 7) p _ h refl refl
reads I16 p h = read_signed (2 ^ 16) (2 ^ 15) p _ h refl refl
reads I32 p h = read_signed (2 ^ 32) (2 ^ 31) p _ h refl refl
reads I64 p h = read_signed (2 ^ 64) (2 ^ 63) p _ h refl refl

-- the pattern less `low` is at most `span` where its integer lies from a to b
pub tested_pattern : (t : PType) (p low span : ℕ) (a b : ℤ) → p < 2 ^ bits_of_type t → low < 2 ^ bits_of_type t → least_of t ≤ℤ a → a ≤ℤ b → b <ℤ (least_of t +ℤ pos (2 ^ bits_of_type t))
    → (pos low ≡ a) ⊎ (pos low ≡ a +ℤ pos (2 ^ bits_of_type t)) → pos span ≡ b -ℤ a → in_range (bits_of_type t) low span p ≡ (int_le a (read_as t p) && int_le (read_as t p) b)
unfolding in_range
tested_pattern t p low span a b small small_low la ab bl there long =
    let read = reads t p small in
    range_at (2 ^ bits_of_type t) p low span (least_of t) (read_as t p) a b small small_low la ab bl read.low read.high read.same there long

-- ---- the test of a type's patterns
least_low : (t : PType) → (negsuc (2 ^ bits_of_type t - 1) ≤ℤ least_of t) × (least_of t ≤ℤ pos 0)
least_low U8 = (omega (arith, ints), omega (arith, ints))
least_low U16 = (omega (arith, ints), omega (arith, ints))
least_low U32 = (omega (arith, ints), omega (arith, ints))
least_low U64 = (omega (arith, ints), omega (arith, ints))
least_low I8 = (omega (arith, ints), omega (arith, ints))
least_low I16 = (omega (arith, ints), omega (arith, ints))
least_low I32 = (omega (arith, ints), omega (arith, ints))
least_low I64 = (omega (arith, ints), omega (arith, ints))

pub size_small : (t : PType) → 2 ^ bits_of_type t ≤ 18446744073709551616
size_small U8 = omega arith
size_small U16 = omega arith
size_small U32 = omega arith
size_small U64 = omega arith
size_small I8 = omega arith
size_small I16 = omega arith
size_small I32 = omega arith
size_small I64 = omega arith

-- an end of a range within a type is one of its integers
pub end_within : (t : PType) (n : ℕ) (a b : ℤ) → n ≡ 2 ^ bits_of_type t - 1 → least_of t ≤ℤ a → a ≤ℤ b → b <ℤ (least_of t +ℤ pos (2 ^ bits_of_type t)) → (negsuc n ≤ℤ a) × (a ≤ℤ pos n)
end_within t n a b size low order high =
    let ends = least_low t in
    let some = pow_pos (bits_of_type t) in
    let first : negsuc n ≤ℤ least_of t = rw size ends.0 in
    let zero_above : least_of t ≤ℤ pos 0 = ends.1 in
    let m : 2 ^ bits_of_type t ≡ n + 1 = omega arith in
    let near : b <ℤ (least_of t +ℤ pos (n + 1)) = rw (← m) high in
    (omega (arith, ints), omega (arith, ints))

pub below_next : (t : PType) (z : ℤ) → z <ℤ (least_of t +ℤ pos (2 ^ bits_of_type t)) → z ≤ℤ (least_of t +ℤ pos (2 ^ bits_of_type t - 1))
below_next t z high = let some = pow_pos (bits_of_type t) in omega (arith, ints)

pub ends_near : (t : PType) (a b : ℤ) → least_of t ≤ℤ a → b <ℤ (least_of t +ℤ pos (2 ^ bits_of_type t)) → b <ℤ (a +ℤ pos 18446744073709551616)
ends_near t a b low high = let small = size_small t in omega (arith, ints)

pub range_some : (t : PType) (low span n : ℕ) (a b : ℤ) (negated : Bool) → least_of t ≤ℤ a → b <ℤ (least_of t +ℤ pos (2 ^ bits_of_type t)) → n ≡ 2 ^ bits_of_type t - 1 → low ≤ n → (pos low ≡ a) ⊎ (pos low ≡ a +ℤ pos (n + 1)) → pos span ≡ b -ℤ a
    → TestsRange t a b negated (record { low = low; span = span; negated = negated; greatest = n })
range_some t low span n a b negated start near size small there long =
    let some = pow_pos (bits_of_type t) in
    let m : n + 1 ≡ 2 ^ bits_of_type t = omega arith in
    let below : low < 2 ^ bits_of_type t = omega arith in
    record {
      greatest = m;
      low = below;
      span = omega (arith, ints);
      same = λ p h. ap (answer_of negated) (tested_pattern t p low span a b h below start (omega (arith, ints)) near (rw m at there) long);
    }

no_range : (a b z : ℤ) → b <ℤ a → (int_le a z && int_le z b) ≡ false
no_range a b z h = grind (arith, ints)

whole_range : (T n p : ℕ) → n ≡ 2 ^ T - 1 → in_range T 0 n p ≡ true
unfolding in_range
whole_range T n p is =
    let some = pow_pos T in
    let below = mod_below (p + (2 ^ T - 0)) (2 ^ T) some in
    le-leb ((p + (2 ^ T - 0)) % 2 ^ T) n (omega arith)

not_true : (b : Bool) → answer_of (not b) true ≡ answer_of b false
not_true true = refl
not_true false = refl

pub range_none : (t : PType) (n : ℕ) (a b : ℤ) (negated : Bool) → n ≡ 2 ^ bits_of_type t - 1 → b <ℤ a → TestsRange t a b negated (record { low = 0; span = n; negated = not negated; greatest = n })
range_none t n a b negated size out =
    let some = pow_pos (bits_of_type t) in
    record {
      greatest = omega arith;
      low = some;
      span = omega arith;
      same = λ p h. rw (whole_range (bits_of_type t) n p size, no_range a b (read_as t p) out) (not_true negated);
    }

-- the bounds of a test, on the patterns of a type's integers
pub record TestsBounds (ptype : PType) (t : RangeTest) (patterns : PatternTest) : Type 0 where
  pub greatest : patterns.greatest + 1 ≡ 2 ^ bits_of_type ptype
  pub low : patterns.low < 2 ^ bits_of_type ptype
  pub span : patterns.span < 2 ^ bits_of_type ptype
  pub same : (p : ℕ) → p < 2 ^ bits_of_type ptype → answer_of patterns.negated (in_range (bits_of_type ptype) patterns.low patterns.span p) ≡ answer_of t.negated (is_from t.lower (read_as ptype p) && is_up_to t.upper (read_as ptype p))

-- the bounds within a type are those for all of its integers
pub tests_type : (t : PType) (test : RangeTest) (a b : ℤ) (patterns : PatternTest) → TestsRange t a b test.negated patterns
    → ((z : ℤ) → least_of t ≤ℤ z → z <ℤ (least_of t +ℤ pos (2 ^ bits_of_type t)) → (is_from test.lower z && is_up_to test.upper z) ≡ (int_le a z && int_le z b)) → TestsBounds t test patterns
tests_type t test a b patterns tests inside = record {
  greatest = tests.greatest;
  low = tests.low;
  span = tests.span;
  same = λ p h. (let read = reads t p h in tests.same p h ∙ ap (answer_of test.negated) (sym (inside (read_as t p) read.low read.high)));
}

-- ---- references
-- without a reference the integers themselves are tested
pub tests_plain : (t : PType) (test : RangeTest) (patterns : PatternTest) → test.reference ≡ None → TestsBounds t test patterns → TestsPatterns t test patterns
unfolding passes
tests_plain t test patterns none bounds = record {
  greatest = bounds.greatest;
  low = bounds.low;
  span = bounds.span;
  same = λ p h. bounds.same p h ∙ ap (λ (o : Option PValue). answer_of test.negated (is_from test.lower (sum_with o (read_as t p)) && is_up_to test.upper (sum_with o (read_as t p)))) (sym none);
}

-- a sum is as far above a pattern as the integer is above that pattern less the reference
lowered : (N p R low : ℕ) → p < N → R < N → low < N → ((p + R) % N + (N - low)) % N ≡ (p + (N - (low + (N - R)) % N)) % N
lowered N p R low hp hR hl = elim (halved (p + R) N (omega arith)) [
  | inl a ↦ elim (halved (low + (N - R)) N (omega arith)) [
    | inl b ↦
        let more : (p + R) % N + (N - low) ≡ p + (N - (low + (N - R)) % N) + N = omega (arith, a.0, a.1, b.0, b.1) in
        ap (λ (n : ℕ). n % N) more ∙ add-mod_right (p + (N - (low + (N - R)) % N)) N
    | inr b ↦ ap (λ (n : ℕ). n % N) (let same : (p + R) % N + (N - low) ≡ p + (N - (low + (N - R)) % N) = omega (arith, a.0, a.1, b.0, b.1) in same)
  ]
  | inr a ↦ elim (halved (low + (N - R)) N (omega arith)) [
    | inl b ↦ ap (λ (n : ℕ). n % N) (let same : (p + R) % N + (N - low) ≡ p + (N - (low + (N - R)) % N) = omega (arith, a.0, a.1, b.0, b.1) in same)
    | inr b ↦
        let less : p + (N - (low + (N - R)) % N) ≡ (p + R) % N + (N - low) + N = omega (arith, a.0, a.1, b.0, b.1) in
        sym (ap (λ (n : ℕ). n % N) less ∙ add-mod_right ((p + R) % N + (N - low)) N)
  ]
]

in_lowered : (T p R low span : ℕ) → p < 2 ^ T → R < 2 ^ T → low < 2 ^ T → in_range T ((low + (2 ^ T - R)) % 2 ^ T) span p ≡ in_range T low span ((p + R) % 2 ^ T)
unfolding in_range
in_lowered T p R low span hp hR hl = ap (λ (n : ℕ). nat_le n span) (sym (lowered (2 ^ T) p R low hp hR hl))

-- the patterns of the sums with a reference
pub tests_sums : (t : PType) (test : RangeTest) (reference : PValue) (R : ℕ) (patterns new : PatternTest) → test.reference ≡ Some reference → ptype_of_value reference ≡ t → R ≡ pattern_of (ptype_of_value reference) (integer_of reference)
    → new ≡ record patterns { low = (patterns.low + (patterns.greatest + 1 - R)) % (patterns.greatest + 1) } → TestsBounds t test patterns → TestsPatterns t test new
unfolding passes
tests_sums t test reference R patterns new is typed read made bounds =
    let N : ℕ = 2 ^ bits_of_type t in
    let r = integer_of reference in
    let some = pow_pos (bits_of_type t) in
    let size : patterns.greatest + 1 ≡ 2 ^ bits_of_type t = bounds.greatest in
    let pattern : R ≡ pattern_of t r = read ∙ ap (λ q. pattern_of q r) typed in
    let small : R < 2 ^ bits_of_type t = rw pattern (pattern_small t r) in
    let low : new.low ≡ (patterns.low + (2 ^ bits_of_type t - R)) % 2 ^ bits_of_type t = ap (λ (q : PatternTest). q.low) made ∙ ap (λ (m : ℕ). (patterns.low + (m - R)) % m) size in
    let span : new.span ≡ patterns.span = ap (λ (q : PatternTest). q.span) made in
    let negated : new.negated ≡ patterns.negated = ap (λ (q : PatternTest). q.negated) made in
    let greatest : new.greatest ≡ patterns.greatest = ap (λ (q : PatternTest). q.greatest) made in
    record {
      greatest = rw greatest size;
      low = rw low (mod_below (patterns.low + (2 ^ bits_of_type t - R)) (2 ^ bits_of_type t) some);
      span = rw span bounds.span;
      same = λ p h.
          (let sum = (p + R) % 2 ^ bits_of_type t in
          let whole : read_as t sum ≡ sum_with (Some reference) (read_as t p) = ap (λ (n : ℕ). read_as t ((p + n) % 2 ^ bits_of_type t)) pattern ∙ (sum_read t p r h ∙ ap (λ q. wrap q (read_as t p +ℤ r)) (sym typed)) in
          rw (low, span, negated)
          (ap (answer_of patterns.negated) (in_lowered (bits_of_type t) p R patterns.low patterns.span h small bounds.low)
          ∙ (bounds.same sum (mod_below (p + R) (2 ^ bits_of_type t) some)
          ∙ (ap (λ z. answer_of test.negated (is_from test.lower z && is_up_to test.upper z)) whole
          ∙ ap (λ (o : Option PValue). answer_of test.negated (is_from test.lower (sum_with o (read_as t p)) && is_up_to test.upper (sum_with o (read_as t p)))) (sym is)))));
    }

-- the patterns of the sums with one more reference
pub more_sums : (t : PType) (test sums : RangeTest) (r : ℤ) (R : ℕ) (patterns new : PatternTest) → R ≡ pattern_of t r → new ≡ record patterns { low = (patterns.low + (patterns.greatest + 1 - R)) % (patterns.greatest + 1) }
    → ((z : ℤ) → passes sums z ≡ passes test (wrap t (z +ℤ r))) → TestsPatterns t test patterns → TestsPatterns t sums new
more_sums t test sums r R patterns new read made alike tests =
    let some = pow_pos (bits_of_type t) in
    let small : R < 2 ^ bits_of_type t = rw read (pattern_small t r) in
    let low : new.low ≡ (patterns.low + (2 ^ bits_of_type t - R)) % 2 ^ bits_of_type t = ap (λ (q : PatternTest). q.low) made ∙ ap (λ (m : ℕ). (patterns.low + (m - R)) % m) tests.greatest in
    let span : new.span ≡ patterns.span = ap (λ (q : PatternTest). q.span) made in
    let negated : new.negated ≡ patterns.negated = ap (λ (q : PatternTest). q.negated) made in
    let greatest : new.greatest ≡ patterns.greatest = ap (λ (q : PatternTest). q.greatest) made in
    record {
      greatest = rw greatest tests.greatest;
      low = rw low (mod_below (patterns.low + (2 ^ bits_of_type t - R)) (2 ^ bits_of_type t) some);
      span = rw span tests.span;
      same = λ p h.
          (let sum = (p + R) % 2 ^ bits_of_type t in
          let whole : read_as t sum ≡ wrap t (read_as t p +ℤ r) = ap (λ (n : ℕ). read_as t ((p + n) % 2 ^ bits_of_type t)) read ∙ sum_read t p r h in
          rw (low, span, negated)
          (ap (answer_of patterns.negated) (in_lowered (bits_of_type t) p R patterns.low patterns.span h small tests.low)
          ∙ (tests.same sum (mod_below (p + R) (2 ^ bits_of_type t) some) ∙ (ap (passes test) whole ∙ sym (alike (read_as t p))))));
    }

-- a sum with two references is that with their sum
both_added : (x y z : ℤ) → z +ℤ (x +ℤ y) ≡ z +ℤ x +ℤ y
both_added x y z = omega (arith, ints)

pub sum_twice : (t : PType) (x y z : ℤ) → wrap t (z +ℤ wrap t (x +ℤ y)) ≡ wrap t (wrap t (z +ℤ x) +ℤ y)
sum_twice t x y z = wrap-wrap_right t z (x +ℤ y) ∙ (ap (wrap t) (both_added x y z) ∙ sym (wrap-wrap_left t (z +ℤ x) y))

-- the test of sums with a reference, where there is one already
pub summed_again : (test : RangeTest) (x y s : PValue) (z : ℤ) → test.reference ≡ Some y → ptype_of_value y ≡ ptype_of_value x → integer_of s ≡ wrap (ptype_of_value x) (integer_of x +ℤ integer_of y) → ptype_of_value s ≡ ptype_of_value x
    → passes (record test { reference = Some s }) z ≡ passes test (wrap (ptype_of_value x) (z +ℤ integer_of x))
unfolding passes
summed_again test x y s z is other sum typed =
    let t = ptype_of_value x in
    let both : wrap (ptype_of_value s) (z +ℤ integer_of s) ≡ wrap (ptype_of_value y) (wrap (ptype_of_value x) (z +ℤ integer_of x) +ℤ integer_of y) =
    ap (λ q. wrap q (z +ℤ integer_of s)) typed ∙ (ap (λ n. wrap (ptype_of_value x) (z +ℤ n)) sum ∙ (sum_twice (ptype_of_value x) (integer_of x) (integer_of y) z ∙ ap (λ q. wrap q (wrap (ptype_of_value x) (z +ℤ integer_of x) +ℤ integer_of y)) (sym other))) in
    ap (λ n. answer_of test.negated (is_from test.lower n && is_up_to test.upper n)) both
    ∙ ap (λ (o : Option PValue). answer_of test.negated (is_from test.lower (sum_with o (wrap (ptype_of_value x) (z +ℤ integer_of x))) && is_up_to test.upper (sum_with o (wrap (ptype_of_value x) (z +ℤ integer_of x))))) (sym is)

-- the same, where there is none
pub summed_first : (test : RangeTest) (x : PValue) (z : ℤ) → test.reference ≡ None → passes (record test { reference = Some x }) z ≡ passes test (wrap (ptype_of_value x) (z +ℤ integer_of x))
unfolding passes
summed_first test x z is = ap (λ (o : Option PValue). answer_of test.negated (is_from test.lower (sum_with o (wrap (ptype_of_value x) (z +ℤ integer_of x))) && is_up_to test.upper (sum_with o (wrap (ptype_of_value x) (z +ℤ integer_of x))))) (sym is)

-- the answer for a pattern is that for its integer
pub tested_by : (t : PType) (test : RangeTest) (patterns : PatternTest) (p : ℕ) (z : ℤ) → TestsPatterns t test patterns → p < 2 ^ bits_of_type t → read_as t p ≡ z
    → answer_of patterns.negated (nat_le ((p + (patterns.greatest + 1 - patterns.low)) % (patterns.greatest + 1)) patterns.span) ≡ passes test z
unfolding in_range
tested_by t test patterns p z tests small read =
    ap (λ (m : ℕ). answer_of patterns.negated (nat_le ((p + (m - patterns.low)) % m) patterns.span)) tests.greatest ∙ (tests.same p small ∙ ap (passes test) read)

-- ---- patterns of few bits
least_half : (t : PType) → (pos 0 ≤ℤ (least_of t +ℤ pos (2 ^ (bits_of_type t - 1)))) × (2 ^ bits_of_type t ≡ 2 ^ (bits_of_type t - 1) + 2 ^ (bits_of_type t - 1))
least_half U8 = (omega (arith, ints), refl)
least_half U16 = (omega (arith, ints), refl)
least_half U32 = (omega (arith, ints), refl)
least_half U64 = (omega (arith, ints), refl)
least_half I8 = (omega (arith, ints), refl)
least_half I16 = (omega (arith, ints), refl)
least_half I32 = (omega (arith, ints), refl)
least_half I64 = (omega (arith, ints), refl)

-- a pattern of fewer bits than the type's is read as itself
pub read_small : (t : PType) (width p : ℕ) → width < bits_of_type t → p < 2 ^ width → read_as t p ≡ pos p
read_small t width p narrow small =
    let half = least_half t in
    let most : 2 ^ width ≤ 2 ^ (bits_of_type t - 1) = pow_mono (omega arith) in
    let read = reads t p (let whole = half.1 in omega arith) in
    elim read.same [
      | inl e ↦ sym e
      | inr e ↦ absurd (let low = read.low in let whole = half.1 in let first = half.0 in omega (arith, ints))
    ]
