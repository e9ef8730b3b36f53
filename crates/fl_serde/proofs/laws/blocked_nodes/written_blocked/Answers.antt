use Rattle.fl_serde.proofs.BlockedIds.{blocked_node}
use Rattle.fl_serde.proofs.laws.blocked_nodes.written_blocked.Goals as goal

pub returns-clause-ids : goal.returns-clause-ids
returns-clause-ids c = blocked_node c.args.array.now c.in_ok-blocked.blocked c.serialize.result c.in_ok-blocked.ensures.tree c.serialize.ensures.node
