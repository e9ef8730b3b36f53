use Rattle.std.proofs.Common.{arith, refl}
use Rattle.flcol_container.proofs.Sizes.{next_short, next_size}
use Rattle.flcol_container.proofs.limits.buffers_size.Goals as goal

pub loop-buffer-preserved : goal.loop-buffer-preserved
loop-buffer-preserved c = (
  next_size c.args.buffers.now c.loop-buffer.buffer-index c.buffer-item.result c.loop-buffer.size c.saturating_add-size.result c.loop-buffer-test.true c.buffer-item.is c.loop-buffer.invariant.0 (rw (c.saturating_add-size.ensures, c.saturating_add.ensures, c.len.ensures.value) refl),
  next_short c.args.buffers.now c.loop-buffer.buffer-index c.buffer-item.result c.loop-buffer-test.true c.buffer-item.is c.loop-buffer.invariant.1 (omega (arith, c.len.ensures.bound, c.len.ensures.value)),
)
