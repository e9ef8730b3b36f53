use Rattle.std.proofs.Common.{◌≡◌, ◌*◌, ◌+◌, ◌-◌}
use Rattle.flcol_container.specs.ContainerReading.{node_in, nodes_at}
use Rattle.flcol_container.proofs.Steps.{with_nodes}
use Rattle.flcol_container.proofs.reading.+nodes.Given as goal

abbrev pub decreases-read_children : goal.decreases-read_children
decreases-read_children l = 3 * l.depth + 1

abbrev pub decreases-read_node : goal.decreases-read_node
decreases-read_node l = 3 * l.depth

abbrev pub decreases-read_level : goal.decreases-read_level
decreases-read_level l = 3 * l.below + 2

-- the children so far, and those that are still read
abbrev pub invariant-read_children-loop : goal.invariant-read_children-loop
invariant-read_children-loop l = with_nodes l.children.items (nodes_at (node_in l.depth) (l.count - l.counter) l.rest) ≡ nodes_at (node_in l.fn.depth) l.fn.count l.fn.rest
