-- Lists of booleans, kept 64 to a word.
use Rattle.std.specs.Prelude.{◌==◌, ◌+◌, ◌-◌, ◌/◌, ◌%◌, ℕ, Bool, List, [], ◌∷◌, map, slice_index, take, drop, count_by, if◌then◌else◌}
use Rattle.std.specs.Int.{bit_at}
use Rattle.std.specs.List.{range_with_len}

-- f 0 to f (n - 1)
abbrev pub tabulate : {A : Type 0} → (ℕ → A) → ℕ → List A
tabulate f n = map f (range_with_len 0 n)

-- the items from start to below end
abbrev pub between : {A : Type 0} → ℕ → ℕ → List A → List A
between start end items = take (end - start) (drop start items)

-- bit j of a word
unfoldable pub bit_of_word : ℕ → ℕ → Bool
bit_of_word word j = bit_at word j == 1

-- the bits of a word of 64, the lowest first
unfoldable pub bits_of_word : ℕ → List Bool
bits_of_word word = tabulate (bit_of_word word) 64

-- bit i of these words
unfoldable pub is_set : List ℕ → ℕ → Bool
is_set words i = bit_of_word (slice_index words (i / 64)) (i % 64)

-- the first n bits of these words
unfoldable pub first_bits : List ℕ → ℕ → List Bool
first_bits words n = tabulate (is_set words) n

-- the n bits of these words from bit `start` on
unfoldable pub bits_from : List ℕ → ℕ → ℕ → List Bool
bits_from words start n = tabulate (λ i. is_set words (start + i)) n

-- how many are true
abbrev pub true_count : List Bool → ℕ
true_count bits = count_by (λ bit. bit) bits

-- the items at the true places, in order
abbrev pub kept : {A : Type 0} → List Bool → List A → List A
kept [] items = []
kept (bit ∷ bits) [] = []
kept (bit ∷ bits) (x ∷ items) = if bit then x ∷ kept bits items else kept bits items
