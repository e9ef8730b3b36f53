use Rattle.std.proofs.Common.{subst}
use Rattle.fl_metadata.specs.WrittenText.{AreBytes}
use Rattle.flcol_file.proofs.ChunkLaws.{array_read, array_refused, container_refused}
use Rattle.flcol_file.proofs.chunks.read_chunk.Goals as goal

pub returns-in_err-node : goal.returns-in_err-node
returns-in_err-node c = container_refused c.args.bytes.now c.from_residual.result c.in_err-node.field-0.0 (subst AreBytes c.as_slice.ensures c.prove_bytes.ensures) c.from_residual.ensures.1 c.in_err-node.ensures

pub returns-in_err-deserialize : goal.returns-in_err-deserialize
returns-in_err-deserialize c = array_refused c.args.bytes.now c.in_ok-node.node c.from_residual-in_err-deserialize.result c.in_err-deserialize.field-0.0 c.in_ok-node.ensures c.from_residual-in_err-deserialize.ensures.1 c.in_err-deserialize.ensures.array

pub returns : goal.returns
returns c = array_read c.args.bytes.now c.in_ok-node.node c.in_ok-deserialize.field-0 c.in_ok-node.ensures c.in_ok-deserialize.ensures.array
