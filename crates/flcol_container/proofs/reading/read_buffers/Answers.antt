use Rattle.std.proofs.lemmas.Result.{err_from_is_err_and}
use Rattle.flcol_container.specs.ContainerReading.{buffers_at}
use Rattle.flcol_container.proofs.Steps.{all_buffers, next_buffer, no_buffer}
use Rattle.flcol_container.proofs.reading.read_buffers.Goals as goal

pub returns-in_err-read_prefixed : goal.returns-in_err-read_prefixed
returns-in_err-read_prefixed c =
    let p = err_from_is_err_and c.from_residual.result c.from_residual.ensures.1 in
    rw (p.1, p.2) (no_buffer c.in_err-read_prefixed.field-0.0 c.loop.buffers.items c.args.count c.loop.counter c.loop.rest (buffers_at c.args.count c.args.rest.now) c.loop-test.true c.in_err-read_prefixed.ensures c.loop.invariant)

pub loop-preserved : goal.loop-preserved
loop-preserved c =
    rw c.in_ok-push.ensures.items (next_buffer c.loop.buffers.items c.args.count c.loop.counter c.loop.rest c.read_prefixed.new.rest c.in_ok-read_prefixed.field-0 (buffers_at c.args.count c.args.rest.now) c.loop-test.true c.in_ok-read_prefixed.ensures c.loop.invariant)

pub returns : goal.returns
returns c = all_buffers c.loop.buffers.items c.args.count c.loop.counter c.loop.rest (buffers_at c.args.count c.args.rest.now) c.loop-test.false c.loop.invariant
