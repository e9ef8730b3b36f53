use Rattle.std.proofs.Common.{◌≡◌, ◌++◌, take}
use Rattle.std.specs.Prelude.{flat_map}
use Rattle.std.specs.Int.{w64}
use Rattle.flcol_container.specs.Container.{length_prefixed}
use Rattle.flcol_container.proofs.writing.push_buffers.Given as goal

-- the buffers so far
abbrev pub invariant-loop-buffer : goal.invariant-loop-buffer
invariant-loop-buffer l = l.out.items ≡ l.fn.out.items ++ flat_map (length_prefixed w64) (take l.buffer-index l.buffers)
