-- One row of sixteen lanes joins the words that are begun.
use Rattle.std.proofs.Common.{◌≡◌, ℕ, ◌+◌, ◌-◌, ◌*◌, ◌/◌, ◌%◌, ◌^◌, ◌<◌, ◌≤◌, ◌∙◌, ap, sym, arith, inl, inr, refl, bit_and, bit_or, subst}
use Rattle.std.specs.Int.{bit_at}
use Rattle.std.proofs.lemmas.Nat.{div_below, mul-add-lt, mod_below, mul-le, pow_pos, pow-add, or_lt, div-add-mod', div-mul-add, mod-mul-add}
use Rattle.std.proofs.lemmas.Nat.Bits.{same_from_bits_below, bit_at_and, bit_at_or, bit_at_ones, bit_at-lt, bit_at_above}
use Rattle.std.proofs.Math.Nat.{mod-le, zero-mod}
use Rattle.std.proofs.lemmas.Bool.{cases_lt}
use Rattle.fastlanes.specs.Layout.{place, packed_bits, stream_bit, IsWordWidth, bits_8, bits_16, bits_32, bits_64}
use Rattle.fastlanes.specs.Rows.{packed_word, begun_word}
use Rattle.fastlanes.proofs.BitSums.{bit_at_from_bits, from_bits_below, packed_bits_none}
use Rattle.fastlanes.proofs.Blocks.{above_zero, bit_at_low}
use Rattle.fastlanes.proofs.Shifts.{shifted_low, shifted_high, begun_bit}
use Rattle.fastlanes.proofs.Steps.{mask_small}

bits_of_packed : (T width : ℕ) (item : ℕ → ℕ) (k l n t : ℕ) → t < n → bit_at (packed_bits T width item k l n) t ≡ stream_bit width item l (k * T + t)
unfolding packed_bits
bits_of_packed T width item k l n t h =
    bit_at_from_bits (λ t. stream_bit width item l (k * T + t)) (λ i. bit_at-lt (item (place ((k * T + i) / width) l)) ((k * T + i) % width)) n t h

packed_small : (T width : ℕ) (item : ℕ → ℕ) (k l n : ℕ) → packed_bits T width item k l n < 2 ^ n
unfolding packed_bits
packed_small T width item k l n =
    from_bits_below (λ t. stream_bit width item l (k * T + t)) (λ i. bit_at-lt (item (place ((k * T + i) / width) l)) ((k * T + i) % width)) n

packed_is : (T width : ℕ) (item : ℕ → ℕ) (k l n y : ℕ) → y < 2 ^ n → ((t : ℕ) → t < n → bit_at y t ≡ stream_bit width item l (k * T + t)) → y ≡ packed_bits T width item k l n
packed_is T width item k l n y small bits =
    same_from_bits_below n y _ small (packed_small T width item k l n) (λ t h. bits t h ∙ sym (bits_of_packed T width item k l n t h))

-- the bits of row r stand side by side in the stream
row_bit : (width : ℕ) (item : ℕ → ℕ) (l r b : ℕ) → b < width → stream_bit width item l (r * width + b) ≡ bit_at (item (place r l)) b
row_bit width item l r b h = rw (div-mul-add r width b h, mod-mul-add r width b h) refl

cut_bit : (x width i : ℕ) → i < width → bit_at (bit_and x (2 ^ width - 1)) i ≡ bit_at x i
cut_bit x width i h =
    let masked = bit_at_and x (2 ^ width - 1) i in
    let ones = bit_at_ones width i h in
    let small = bit_at-lt x i in
    omega arith

-- the words that row r joins, as far as bit n
both_bit : (T width : ℕ) (item : ℕ → ℕ) (l r k shift n t : ℕ) → shift < T → k * T + shift ≡ r * width → n ≤ T → n ≤ shift + width → t < n
    → bit_at (bit_or (packed_bits T width item k l shift) (bit_and (item (place r l)) (2 ^ width - 1) * 2 ^ shift % 2 ^ T)) t ≡ stream_bit width item l (k * T + t)
both_bit T width item l r k shift n t s at p q h =
    let x = item (place r l) in
    let f = bit_and (item (place r l)) (2 ^ width - 1) in
    let joined = bit_at_or (packed_bits T width item k l shift) (bit_and (item (place r l)) (2 ^ width - 1) * 2 ^ shift % 2 ^ T) t in
    let cut = bit_at_low (bit_and (item (place r l)) (2 ^ width - 1) * 2 ^ shift) T t (omega arith) in
    elim (cases_lt t shift) [
      | inl under ↦
          let one = bits_of_packed T width item k l shift t under in
          let none = shifted_low (bit_and (item (place r l)) (2 ^ width - 1)) shift t under in
          omega arith
      | inr over ↦
          let none = bit_at_above (packed_bits T width item k l shift) shift t (packed_small T width item k l shift) over in
          let two = shifted_high (bit_and (item (place r l)) (2 ^ width - 1)) shift t over in
          let within : t - shift < width = omega arith in
          let three = cut_bit (item (place r l)) width (t - shift) within in
          let four = row_bit width item l r (t - shift) within in
          let same : r * width + (t - shift) ≡ k * T + t = omega arith in
          let five = ap (stream_bit width item l) (sym same) ∙ four in
          omega arith
    ]

-- a row that ends below the word's end
both_small : (T width x h shift : ℕ) → h < 2 ^ shift → bit_or h (bit_and x (2 ^ width - 1) * 2 ^ shift % 2 ^ T) < 2 ^ (shift + width)
both_small T width x h shift small =
    let f_small : bit_and x (2 ^ width - 1) < 2 ^ width = mask_small x width in
    let positive : 0 < 2 ^ shift = pow_pos shift in
    let whole : bit_and x (2 ^ width - 1) * 2 ^ shift + 0 < 2 ^ shift * 2 ^ width = mul-add-lt (bit_and x (2 ^ width - 1)) (2 ^ shift) 0 (2 ^ width) f_small positive in
    let less : bit_and x (2 ^ width - 1) * 2 ^ shift % 2 ^ T ≤ bit_and x (2 ^ width - 1) * 2 ^ shift = mod-le (bit_and x (2 ^ width - 1) * 2 ^ shift) (2 ^ T) in
    let high : bit_and x (2 ^ width - 1) * 2 ^ shift % 2 ^ T < 2 ^ (shift + width) = rw (pow-add 2 shift width) (omega arith) in
    let more : 2 ^ shift * 1 ≤ 2 ^ shift * 2 ^ width = mul-le (2 ^ shift) 1 (2 ^ shift) (2 ^ width) (omega arith) (pow_pos width) in
    let low : h < 2 ^ (shift + width) = rw (pow-add 2 shift width) (omega arith) in
    or_lt (shift + width) h (bit_and x (2 ^ width - 1) * 2 ^ shift % 2 ^ T) low high

stays : (T lanes at width : ℕ) → IsWordWidth T lanes → at % T + width < T → ((at + width) / T ≡ at / T) × ((at + width) % T ≡ at % T + width)
stays _ _ at width bits_8 h = (omega arith, omega arith)
stays _ _ at width bits_16 h = (omega arith, omega arith)
stays _ _ at width bits_32 h = (omega arith, omega arith)
stays _ _ at width bits_64 h = (omega arith, omega arith)

moves : (T lanes at width : ℕ) → IsWordWidth T lanes → width ≤ T → T ≤ at % T + width → ((at + width) / T ≡ at / T + 1) × ((at + width) % T ≡ at % T + width - T)
moves _ _ at width bits_8 w h = (omega arith, omega arith)
moves _ _ at width bits_16 w h = (omega arith, omega arith)
moves _ _ at width bits_32 w h = (omega arith, omega arith)
moves _ _ at width bits_64 w h = (omega arith, omega arith)

next_row : (r width : ℕ) → (r + 1) * width ≡ r * width + width
next_row r width = omega arith

-- the words that are begun, where the row ends in the same word
pub row_stays : (T lanes width : ℕ) (item : ℕ → ℕ) (r l k shift h x f b y : ℕ) → IsWordWidth T lanes → k ≡ r * width / T → shift ≡ r * width % T → shift + width < T
    → h ≡ begun_word T width item (r * width) l → x ≡ item (place r l) → f ≡ bit_and x (2 ^ width - 1) → b ≡ f * 2 ^ shift % 2 ^ T → y ≡ bit_or h b → y ≡ begun_word T width item ((r + 1) * width) l
unfolding begun_word
row_stays T lanes width item r l k shift h x f b y shape k_is shift_is within h_is x_is f_is b_is y_is =
    let there = stays T lanes (r * width) width shape (rw shift_is at within) in
    let whole : r * width / T * T + r * width % T ≡ r * width = div-add-mod' (r * width) T in
    let below = mod_below (r * width) T (above_zero T lanes shape).0 in
    rw (next_row r width, there.0, there.1, y_is, h_is, b_is, f_is, x_is, shift_is)
    (packed_is T width item (r * width / T) l (r * width % T + width) _
    (both_small T width (item (place r l)) _ (r * width % T) (packed_small T width item (r * width / T) l (r * width % T)))
    (λ t p. both_bit T width item l r (r * width / T) (r * width % T) (r * width % T + width) t below whole (let e : r * width % T + width < T = rw shift_is at within in omega arith) (omega arith) p))

-- the words that are whole
pub row_fills : (T lanes width : ℕ) (item : ℕ → ℕ) (r l k shift h x f b y : ℕ) → IsWordWidth T lanes → k ≡ r * width / T → shift ≡ r * width % T → T ≤ shift + width
    → h ≡ begun_word T width item (r * width) l → x ≡ item (place r l) → f ≡ bit_and x (2 ^ width - 1) → b ≡ f * 2 ^ shift % 2 ^ T → y ≡ bit_or h b → y ≡ packed_word T width item k l
unfolding begun_word packed_word
row_fills T lanes width item r l k shift h x f b y shape k_is shift_is beyond h_is x_is f_is b_is y_is =
    let whole : r * width / T * T + r * width % T ≡ r * width = div-add-mod' (r * width) T in
    let below = mod_below (r * width) T (above_zero T lanes shape).0 in
    let beyond' : T ≤ r * width % T + width = rw shift_is at beyond in
    let small = packed_small T width item (r * width / T) l (r * width % T) in
    let split : 2 ^ (r * width % T + (T - r * width % T)) ≡ 2 ^ (r * width % T) * 2 ^ (T - r * width % T) = pow-add 2 (r * width % T) (T - r * width % T) in
    let parts : r * width % T + (T - r * width % T) ≡ T = omega arith in
    let split' : 2 ^ T ≡ 2 ^ (r * width % T) * 2 ^ (T - r * width % T) = rw parts at split in
    let more : 2 ^ (r * width % T) * 1 ≤ 2 ^ (r * width % T) * 2 ^ (T - r * width % T) = mul-le (2 ^ (r * width % T)) 1 (2 ^ (r * width % T)) (2 ^ (T - r * width % T)) (omega arith) (pow_pos (T - r * width % T)) in
    rw (k_is, y_is, h_is, b_is, f_is, x_is, shift_is)
    (packed_is T width item (r * width / T) l T _
    (or_lt T _ _ (omega arith) (mod_below _ (2 ^ T) (pow_pos T)))
    (λ t p. both_bit T width item l r (r * width / T) (r * width % T) T t below whole (omega arith) beyond' p))

pub row_ends : (T lanes width : ℕ) (item : ℕ → ℕ) (r l shift y : ℕ) → IsWordWidth T lanes → width ≤ T → shift ≡ r * width % T → shift + width ≡ T → y ≡ 0 → y ≡ begun_word T width item ((r + 1) * width) l
unfolding begun_word
row_ends T lanes width item r l shift y shape w shift_is ends y_is =
    let there = moves T lanes (r * width) width shape w (omega arith) in
    let none : r * width % T + width - T ≡ 0 = omega arith in
    rw (next_row r width, there.1, none, y_is) (sym (packed_bits_none T width item _ l))

pub row_goes_on : (T lanes width : ℕ) (item : ℕ → ℕ) (r l shift x f y : ℕ) → IsWordWidth T lanes → width ≤ T → shift ≡ r * width % T → T ≤ shift + width
    → x ≡ item (place r l) → f ≡ bit_and x (2 ^ width - 1) → y ≡ f / 2 ^ (T - shift) → y ≡ begun_word T width item ((r + 1) * width) l
unfolding begun_word
row_goes_on T lanes width item r l shift x f y shape w shift_is beyond x_is f_is y_is =
    let there = moves T lanes (r * width) width shape w (rw shift_is at beyond) in
    let whole : r * width / T * T + r * width % T ≡ r * width = div-add-mod' (r * width) T in
    let below = mod_below (r * width) T (above_zero T lanes shape).0 in
    let beyond' : T ≤ r * width % T + width = rw shift_is at beyond in
    let parts : r * width % T + width - T + (T - r * width % T) ≡ width = omega arith in
    let f_small : bit_and (item (place r l)) (2 ^ width - 1) < 2 ^ (r * width % T + width - T) * 2 ^ (T - r * width % T) = let split : 2 ^ (r * width % T + width - T + (T - r * width % T)) ≡ 2 ^ (r * width % T + width - T) * 2 ^ (T - r * width % T) = pow-add 2 (r * width % T + width - T) (T - r * width % T) in let e = rw parts at split in subst (λ (n : ℕ). bit_and (item (place r l)) (2 ^ width - 1) < n) e (mask_small (item (place r l)) width) in
    rw (next_row r width, there.0, there.1, y_is, f_is, x_is, shift_is)
    (packed_is T width item (r * width / T + 1) l (r * width % T + width - T) _
    (div_below _ (2 ^ (T - r * width % T)) _ (pow_pos _) f_small)
    (λ t p.
    let far : T - r * width % T + t < width = omega arith in
    let same : r * width + (T - r * width % T + t) ≡ (r * width / T + 1) * T + t = omega arith in
    begun_bit (bit_and (item (place r l)) (2 ^ width - 1)) (T - r * width % T) t
    ∙ (cut_bit (item (place r l)) width (T - r * width % T + t) far
    ∙ (sym (row_bit width item l r (T - r * width % T + t) far) ∙ ap (stream_bit width item l) same))))

pub next_word_stays : (T lanes width r shift : ℕ) → IsWordWidth T lanes → shift ≡ r * width % T → shift + width < T → (r + 1) * width / T ≡ r * width / T
next_word_stays T lanes width r shift shape shift_is within = rw (next_row r width) (stays T lanes (r * width) width shape (rw shift_is at within)).0

pub next_word_moves : (T lanes width r shift : ℕ) → IsWordWidth T lanes → width ≤ T → shift ≡ r * width % T → T ≤ shift + width → (r + 1) * width / T ≡ r * width / T + 1
next_word_moves T lanes width r shift shape w shift_is beyond = rw (next_row r width) (moves T lanes (r * width) width shape w (rw shift_is at beyond)).0

pub begun_none : (T width : ℕ) (item : ℕ → ℕ) (l s x : ℕ) → s ≡ 0 → x ≡ 0 → x ≡ begun_word T width item s l
unfolding begun_word
begun_none T width item l s x e f = rw (e, zero-mod T, f) (sym (packed_bits_none T width item _ l))
