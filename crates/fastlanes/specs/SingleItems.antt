-- The packed words that reading single items takes.
use Rattle.std.specs.Prelude.{ℕ, zero, suc, ◌+◌, if◌then◌else◌, nat_eq}
use Rattle.fastlanes.specs.Layout.{row_of, words_of_item}

-- how many words hold the bits of the item at position i: none at width 0
unfoldable pub words_at : ℕ → ℕ → ℕ → ℕ → ℕ
words_at T lanes width i = if nat_eq width 0 then 0 else words_of_item T width (row_of lanes i)

-- how many words hold the bits of the items at the first n of these positions, added up
unfoldable pub words_of_items : ℕ → ℕ → ℕ → (ℕ → ℕ) → ℕ → ℕ
words_of_items T lanes width index zero = 0
words_of_items T lanes width index (suc n) = words_of_items T lanes width index n + words_at T lanes width (index n)
