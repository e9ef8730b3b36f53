use Rattle.fl_codec.proofs.RunLaws.{indices_in_chunk}
use Rattle.fl_codec.proofs.rle.blocks.write_indices_typed.Goals as goal

pub returns : goal.returns
returns g c = indices_in_chunk c.args.array.now c.args.k c.write_runs-values.new.positions c.requires.chunk c.write_runs-values.ensures.whole c.write_runs-values.ensures.indices
