-- What delta and run-length encoded arrays keep beside their children: an offset, and how it is printed.
use Rattle.std.specs.Prelude.{◌++◌, ℕ, List, Result, Ok, Err, codes, nat_le, if◌then◌else◌}
use Rattle.std.specs.Fmt.{decimal}
use Rattle.fl_types.specs.declared.error.FastLanesError.{FastLanesError}
use Rattle.fl_types.specs.declared.error.FastLanesError.TheVariants.{OffsetTooLarge}

-- an offset, unless it is 1024 or more
abbrev pub new_offset : ℕ → Result ℕ FastLanesError
new_offset offset = if nat_le 1024 offset then Err OffsetTooLarge else Ok offset

-- an offset as it is printed
abbrev pub offset_text : ℕ → List ℕ
offset_text offset = codes "offset: " ++ decimal offset
