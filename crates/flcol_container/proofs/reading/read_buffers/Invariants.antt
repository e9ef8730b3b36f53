use Rattle.std.proofs.Common.{◌≡◌, ◌-◌}
use Rattle.flcol_container.specs.ContainerReading.{buffers_at}
use Rattle.flcol_container.proofs.Steps.{with_buffers}
use Rattle.flcol_container.proofs.reading.read_buffers.Given as goal

-- the buffers so far, and those that are still read
abbrev pub invariant-loop : goal.invariant-loop
invariant-loop l = with_buffers l.buffers.items (buffers_at (l.count - l.counter) l.rest) ≡ buffers_at l.fn.count l.fn.rest
