-- CRC-32C, as the division of polynomials over bits.
use Rattle.std.specs.Prelude.{◌==◌, ◌/◌, ◌%◌, ◌^◌, ◌-◌, ℕ, zero, suc, List, [], ◌∷◌, bit_xor, flat_map, fold, if◌then◌else◌}
use Rattle.std.specs.Int.{bit_not, w32}

-- Castagnoli's polynomial, 0x82f63b78, below its highest power: the coefficient of a power i is bit 31 - i
abbrev pub polynomial : ℕ
polynomial = 2197175160

-- the remainder with a further bit of the message: times x, and without the polynomial where a highest power came
abbrev pub with_bit : ℕ → ℕ → ℕ
with_bit r bit = if r % 2 == bit then r / 2 else bit_xor (r / 2) polynomial

-- so many bits of a number, the lowest first
abbrev pub low_bits : ℕ → ℕ → List ℕ
low_bits zero n = []
low_bits (suc k) n = n % 2 ∷ low_bits k (n / 2)

-- the bits of bytes, the lowest of each byte first
abbrev pub bits_of : List ℕ → List ℕ
bits_of bytes = flat_map (low_bits 8) bytes

-- the remainder with further bytes of the message
unfoldable pub remainder_after : ℕ → List ℕ → ℕ
remainder_after r bytes = fold with_bit r (bits_of bytes)

-- the CRC-32C of bytes: the remainder that begins with ones, with each bit turned
abbrev pub crc32c_of : List ℕ → ℕ
crc32c_of bytes = bit_not w32 (remainder_after (2 ^ 32 - 1) bytes)
