use Rattle.std.proofs.Common.{◌∙◌, ap, arith, length}
use Rattle.fl_serialized.specs.Nodes.{children_of, nodes_of}
use Rattle.flcol_container.proofs.Sizes.{child_smaller}
use Rattle.flcol_container.proofs.Written.{all_written, begun, child_fits, next_written}
use Rattle.flcol_container.proofs.writing.+push_node.Goals as goal

pub loop-child-init : goal.loop-child-init
loop-child-init t c = begun c.args.array.now c.args.out.now.items c.push_head.new.out.items c.push.new.self.items c.child_count.result c.in_ok-push_head.ensures c.child_count.ensures c.in_ok-push.ensures.items

pub push_node-requires : goal.push_node-requires
push_node-requires t c =
    let all = ap nodes_of c.deref-child-items.ensures.value ∙ ap children_of c.array.view_is in
    let smaller = child_smaller c.args.array.now c.deref-child-items.result.now c.loop-child.child-index c.child-item.result all c.loop-child-test.true c.child-item.is in (
      omega (arith, smaller, c.decreases),
      (child_fits c.args.array.now c.deref-child-items.result.now c.loop-child.child-index c.child-item.result all c.requires c.loop-child-test.true c.child-item.is).0,
    )

pub loop-child-preserved : goal.loop-child-preserved
loop-child-preserved t c = next_written c.args.array.now c.deref-child-items.result.now c.loop-child.child-index c.child-item.result (length c.as_slice-at.result.now) c.args.out.now.items c.loop-child.out.items c.push_length.new.out.items c.push_node.new.out.items c.put_length.new.out.items c.loop-child-test.true c.child-item.is (ap length c.as_slice-at.ensures.value) c.loop-child.invariant c.in_ok-push_length.ensures c.in_ok-push_node.ensures c.put_length.ensures

pub returns : goal.returns
returns t c = all_written c.args.array.now c.deref-child-items.result.now c.loop-child.child-index c.args.out.now.items c.loop-child.out.items c.loop-child-test.false (ap nodes_of c.deref-child-items.ensures.value ∙ ap children_of c.array.view_is) c.loop-child.invariant
