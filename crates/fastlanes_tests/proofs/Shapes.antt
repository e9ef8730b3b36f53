-- Words have rows, and blocks lanes.
use Rattle.std.proofs.Common.{ℕ, ◌/◌, ◌<◌, lit≤}
use Rattle.fastlanes.specs.Layout.{IsWordWidth, bits_8, bits_16, bits_32, bits_64}

pub some_rows : (T lanes : ℕ) → IsWordWidth T lanes → 0 < T
some_rows T lanes bits_8 = lit≤ tt
some_rows T lanes bits_16 = lit≤ tt
some_rows T lanes bits_32 = lit≤ tt
some_rows T lanes bits_64 = lit≤ tt

pub some_bytes : (T lanes : ℕ) → IsWordWidth T lanes → 0 < T / 8
some_bytes T lanes bits_8 = lit≤ tt
some_bytes T lanes bits_16 = lit≤ tt
some_bytes T lanes bits_32 = lit≤ tt
some_bytes T lanes bits_64 = lit≤ tt

pub some_lanes : (T lanes : ℕ) → IsWordWidth T lanes → 0 < lanes
some_lanes T lanes bits_8 = lit≤ tt
some_lanes T lanes bits_16 = lit≤ tt
some_lanes T lanes bits_32 = lit≤ tt
some_lanes T lanes bits_64 = lit≤ tt
