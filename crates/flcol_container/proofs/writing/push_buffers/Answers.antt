use Rattle.std.proofs.Common.{◌++◌, ◌∙◌, ap}
use Rattle.flcol_container.proofs.Written.{next_bytes}
use Rattle.flcol_container.proofs.writing.push_buffers.Goals as goal

pub loop-buffer-preserved : goal.loop-buffer-preserved
loop-buffer-preserved c = next_bytes c.args.buffers.now c.loop-buffer.buffer-index c.buffer-item.result c.len.result c.args.out.now.items c.loop-buffer.out.items c.push_length.new.out.items c.extend_from_slice.new.self.items c.loop-buffer-test.true c.buffer-item.is c.len.ensures.value c.loop-buffer.invariant c.in_ok-push_length.ensures (c.in_ok-extend_from_slice.ensures.items ∙ ap (λ x. c.push_length.new.out.items ++ x) c.deref.ensures)
