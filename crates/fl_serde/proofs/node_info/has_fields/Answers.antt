use Rattle.fl_serde.proofs.NodeLaws.{message_is}
use Rattle.fl_serde.proofs.node_info.has_fields.Goals as goal

pub returns : goal.returns
returns c = message_is c.is_message.result c.args.metadata.now c.is_message.ensures c.row_is_read.ensures.found c.row_is_read.ensures.only
