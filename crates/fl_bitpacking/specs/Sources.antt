-- Readers of packed blocks that may have one width, or each its own.
use Rattle.std.specs.Prelude.{ℕ, List, Option, Some, None, Result, Err}
use Rattle.fl_types.specs.declared.error.FastLanesError.{FastLanesError}
use Rattle.fl_types.specs.declared.error.FastLanesError.TheVariants.{NotGlobal}
use Rattle.fl_bitpacking.specs.Readers.{Reader, new_reader}

-- a reader of packed bytes from an offset on, whose blocks have one width if they all do, or why there is none
abbrev pub reader_at : List ℕ → Option ℕ → ℕ → ℕ → Result Reader FastLanesError
reader_at packed None offset len = Err NotGlobal
reader_at packed (Some width) offset len = new_reader packed width offset len
