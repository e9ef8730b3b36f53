use Rattle.std.proofs.lemmas.Result.{err_from_is_err_and}
use Rattle.flcol_container.specs.ContainerReading.{node_in, nodes_at}
use Rattle.flcol_container.proofs.Steps.{all_nodes, next_node, no_node, no_text}
use Rattle.flcol_container.proofs.reading.+nodes.Goals as goal

pub read_children-returns-in_err-child : goal.read_children-returns-in_err-child
read_children-returns-in_err-child t c =
    let p = err_from_is_err_and c.from_residual.result c.from_residual.ensures.1 in
    rw (p.1, p.2) (no_text (node_in c.args.depth) c.in_err-child.field-0.0 c.loop.children.items c.args.count c.loop.counter c.loop.rest (nodes_at (node_in c.args.depth) c.args.count c.args.rest.now) c.loop-test.true c.in_err-child.ensures c.loop.invariant)

pub read_children-returns-in_err-read_node : goal.read_children-returns-in_err-read_node
read_children-returns-in_err-read_node t c =
    let p = err_from_is_err_and c.from_residual-in_err-read_node.result c.from_residual-in_err-read_node.ensures.1 in
    rw (p.1, p.2) (no_node (node_in c.args.depth) c.in_err-read_node.field-0.0 c.loop.children.items c.args.count c.loop.counter c.loop.rest c.in_ok-child.child c.read_prefixed.new.rest (nodes_at (node_in c.args.depth) c.args.count c.args.rest.now) c.loop-test.true c.in_ok-child.ensures c.in_err-read_node.ensures c.loop.invariant)

pub read_children-loop-preserved : goal.read_children-loop-preserved
read_children-loop-preserved t c =
    rw c.in_ok-push.ensures.items (next_node (node_in c.args.depth) c.loop.children.items c.args.count c.loop.counter c.loop.rest c.in_ok-child.child c.read_prefixed.new.rest c.in_ok-read_node.field-0 (nodes_at (node_in c.args.depth) c.args.count c.args.rest.now) c.loop-test.true c.in_ok-child.ensures c.in_ok-read_node.ensures c.loop.invariant)

pub read_children-returns : goal.read_children-returns
read_children-returns t c = all_nodes (node_in c.args.depth) c.loop.children.items c.args.count c.loop.counter c.loop.rest (nodes_at (node_in c.args.depth) c.args.count c.args.rest.now) c.loop-test.false c.loop.invariant
