use Rattle.flcol_container.proofs.Written.{is_container}
use Rattle.flcol_container.proofs.writing.write_container.Goals as goal

pub push_node-requires : goal.push_node-requires
push_node-requires c = c.in_ok-container_len.ensures.1.fits

pub returns : goal.returns
returns c = is_container c.args.array.now c.in_ok-out.out.items c.extend_from_slice.new.self.items c.push_node.new.out.items c.in_ok-container_len.ensures c.in_ok-out.ensures.items c.in_ok-extend_from_slice.ensures.items c.in_ok-push_node.ensures
