use Rattle.fl_metadata.proofs.WrittenRows.{is_varint_text, shortest_varint, only_varint}
use Rattle.fl_metadata.proofs.laws.varint_is_shortest.Goals as goal

pub returns : goal.returns
returns c = record { spelled = is_varint_text; shortest = shortest_varint; only = only_varint }
