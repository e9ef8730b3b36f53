use Rattle.std.proofs.Common.{◌≡◌, take}
use Rattle.fl_serialized.proofs.array.cloned_buffers.Given as goal

-- the buffers so far
abbrev pub invariant-loop-buffer : goal.invariant-loop-buffer
invariant-loop-buffer l = l.copies.items ≡ take l.buffer-index l.buffers
