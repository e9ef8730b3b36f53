use Rattle.std.proofs.Common.{Ok, refl}
use Rattle.fl_serde.specs.Writing.{written}
use Rattle.flcol_file.proofs.ChunkLaws.{chunk_refused, chunk_written, node_is}
use Rattle.flcol_file.proofs.chunks.write_chunk.Goals as goal

pub returns-in_err-write_container : goal.returns-in_err-write_container
returns-in_err-write_container c =
    chunk_refused (λ v. v.items) c.args.array.now c.in_ok-node.node c.from_residual-in_err-write_container.result c.in_err-write_container.field-0.0 c.from_residual-in_err-write_container.ensures.1 c.in_err-write_container.ensures
    (node_is (written c.args.array.now) c.in_ok-node.node (Ok (written c.args.array.now)) refl c.in_ok-node.ensures.node)

pub returns : goal.returns
returns c =
    chunk_written c.args.array.now c.in_ok-write_container.field-0.items c.in_ok-node.node c.in_ok-write_container.ensures (node_is (written c.args.array.now) c.in_ok-node.node (Ok (written c.args.array.now)) refl c.in_ok-node.ensures.node) c.in_ok-node.ensures.read_back
