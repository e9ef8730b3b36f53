use Rattle.std.proofs.Common.{arith, sym}
use Rattle.flcol_container.proofs.Written.{measured, no_container, too_large}
use Rattle.flcol_container.proofs.writing.container_len.Goals as goal

pub returns-then-not-has_room : goal.returns-then-not-has_room
returns-then-not-has_room c = (sym c.if-not-has_room.ensures, no_container c.args.array.now c.if-not-has_room.ensures)

pub returns-then-size : goal.returns-then-size
returns-then-size c bytes is = too_large c.args.array.now c.node_size-size.result bytes c.node_size-size.ensures.size (omega arith) is

pub returns : goal.returns
returns c = measured c.args.array.now c.node_size-size.result c.if-not-has_room.ensures c.node_size-size.ensures.in_memory c.node_size-size.ensures.size c.if-size.false
