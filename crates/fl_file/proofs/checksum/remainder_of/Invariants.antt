use Rattle.std.proofs.Common.{◌≡◌, take}
use Rattle.fl_file.specs.Crc32c.{remainder_after}
use Rattle.fl_file.proofs.checksum.remainder_of.Given as goal

-- the remainder with the bytes so far
abbrev pub invariant-loop-byte : goal.invariant-loop-byte
invariant-loop-byte l = l.remainder ≡ remainder_after l.start (take l.byte-index l.bytes)
