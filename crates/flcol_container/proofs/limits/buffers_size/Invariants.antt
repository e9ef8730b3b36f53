use Rattle.std.proofs.Common.{◌≡◌, ◌-◌, ◌^◌, length, min, take}
use Rattle.std.specs.Prelude.{flat_map}
use Rattle.std.specs.Int.{w64}
use Rattle.flcol_container.specs.Container.{length_prefixed}
use Rattle.flcol_container.specs.Room.{AreShort}
use Rattle.flcol_container.proofs.limits.buffers_size.Given as goal

-- the buffers so far
abbrev pub invariant-loop-buffer : goal.invariant-loop-buffer
invariant-loop-buffer l = (l.size ≡ min (length (flat_map (length_prefixed w64) (take l.buffer-index l.buffers))) (2 ^ 64 - 1)) × AreShort (take l.buffer-index l.buffers)
