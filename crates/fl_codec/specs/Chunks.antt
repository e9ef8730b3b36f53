-- Chunks of 1024 items.
use Rattle.std.specs.Prelude.{◌+◌, ◌*◌, ◌/◌, ℕ, List}
use Rattle.fl_types.specs.Bits.{between}

-- how many chunks this many items have, a short last one too
abbrev pub chunks_of : ℕ → ℕ
chunks_of n = (n + 1023) / 1024

-- the items of chunk k
abbrev pub chunk : {A : Type 0} → ℕ → List A → List A
chunk k items = between (1024 * k) (1024 * (k + 1)) items
