use Rattle.std.proofs.Common.{◌∙◌, ap, refl}
use Rattle.fl_serialized.specs.Nodes.{children_of, nodes_of}
use Rattle.flcol_container.proofs.Sizes.{all_in_memory, first_size, next_in_memory, next_node_size, whole_size}
use Rattle.flcol_container.proofs.limits.+node_size.Goals as goal

pub loop-child-init : goal.loop-child-init
loop-child-init t c = (first_size c.args.array.now c.head_size.result c.saturating_add-size.result c.head_size.ensures.size c.saturating_add-size.ensures, tt)

pub loop-child-preserved : goal.loop-child-preserved
loop-child-preserved t c = (
  next_node_size c.args.array.now c.deref-child-items.result.now c.loop-child.child-index c.child-item.result c.loop-child.size c.node_size.result c.saturating_add-size-in-loop-child.result c.loop-child-test.true c.child-item.is c.loop-child.invariant.0 c.node_size.ensures.size (rw (c.saturating_add-size-in-loop-child.ensures, c.saturating_add.ensures) refl),
  next_in_memory c.deref-child-items.result.now c.loop-child.child-index c.child-item.result c.loop-child-test.true c.child-item.is c.loop-child.invariant.1 c.node_size.ensures.in_memory,
)

pub returns-clause-size : goal.returns-clause-size
returns-clause-size t c = whole_size c.args.array.now c.deref-child-items.result.now c.loop-child.child-index c.loop-child.size c.loop-child-test.false (ap nodes_of c.deref-child-items.ensures.value ∙ ap children_of c.array.view_is) c.loop-child.invariant.0

pub returns-clause-in_memory : goal.returns-clause-in_memory
returns-clause-in_memory t c = all_in_memory c.args.array.now c.deref-child-items.result.now c.loop-child.child-index c.loop-child-test.false (ap nodes_of c.deref-child-items.ensures.value ∙ ap children_of c.array.view_is) c.prove_len.ensures c.head_size.ensures.short c.loop-child.invariant.1
