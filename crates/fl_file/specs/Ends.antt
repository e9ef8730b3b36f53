-- What reads and writes say of the bytes of a file.
use Rattle.std.specs.Prelude.{◌≡◌, ◌+◌, ◌≤◌, ◌++◌, ℕ, List, length, take, drop, Option, option_map}
use Rattle.std.specs.Io.KnownBytes.{append_known}

-- these bytes stand in others from this place on
pub record StandsAt (part : List ℕ) (place : ℕ) (bytes : List ℕ) : Type 0 where
  pub within : place + length part ≤ length bytes
  pub is : part ≡ take (length part) (drop place bytes)

-- known bytes grow by these; unknown ones stay unknown
abbrev pub GrowsBy : Option (List ℕ) → Option (List ℕ) → List ℕ → Type 0
GrowsBy old new bytes = new ≡ append_known old bytes

-- known bytes grow by some beginning of these
abbrev pub GrowsByFront : Option (List ℕ) → Option (List ℕ) → List ℕ → Type 0
GrowsByFront old new bytes = (k : ℕ) × GrowsBy old new (take k bytes)

-- where bytes were read from, and how many
abbrev pub Place : Type 0
Place = ℕ × ℕ

-- a log of reads, where there is one, goes on with these
abbrev pub LogGrowsBy : Option (List Place) → Option (List Place) → List Place → Type 0
LogGrowsBy old new reads = new ≡ option_map (λ log. log ++ reads) old

-- a log of reads, where there is one, goes on with some first ones of these
abbrev pub LogGrowsByFront : Option (List Place) → Option (List Place) → List Place → Type 0
LogGrowsByFront old new reads = (done left : List Place) × (done ++ left ≡ reads) × LogGrowsBy old new done
