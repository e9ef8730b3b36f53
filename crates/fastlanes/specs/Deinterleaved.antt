-- Deinterleaved bytes: those at even places before those at odd places.
use Rattle.std.specs.Prelude.{ℕ, ◌+◌, ◌*◌, ◌/◌, ◌%◌}

-- where byte n goes when each part of so many bytes is deinterleaved
unfoldable pub deinterleaved : ℕ → ℕ → ℕ
deinterleaved size n = n / size * size + n % size / 2 + n % 2 * (size / 2)
