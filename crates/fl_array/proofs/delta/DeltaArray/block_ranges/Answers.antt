use Rattle.std.proofs.Common.{length, arith}
use Rattle.fl_array.specs.Trees.{column}
use Rattle.fl_codec.proofs.DeltaSlices.{kept_bases, kept_in_deltas}
use Rattle.fl_array.proofs.DeltaLaws.{sound_deltas}
use Rattle.fl_array.proofs.delta.DeltaArray.block_ranges.Goals as goal

pub returns-clause-base_range : goal.returns-clause-base_range
returns-clause-base_range c =
    let a = c.args.self.now in
    let s = sound_deltas a c.prove_well_formed.ensures in
    let len = c.len-len.ensures.len in
    let items = c.len-len.ensures.items in
    let range = c.requires.range in
    let within = kept_bases (column a.bases) (column a.deltas) a.parts.validity a.parts.offset a.parts.len c.args.end s (omega arith) in
    rw (c.requires.lanes, c.chunk_count-last.ensures, c.offset-offset.ensures) within

pub returns-clause-delta_range : goal.returns-clause-delta_range
returns-clause-delta_range c =
    let a = c.args.self.now in
    let s = sound_deltas a c.prove_well_formed.ensures in
    let len = c.len-len.ensures.len in
    let items = c.len-len.ensures.items in
    let range = c.requires.range in
    let last = c.chunk_count-last.ensures in
    let offset = c.offset-offset.ensures in
    let inside = s.range in
    let whole = s.whole in
    let within = kept_in_deltas a.parts.offset a.parts.len (length (column a.deltas).items) c.args.end s.range s.whole (omega arith) in
    rw (c.chunk_count-last.ensures, c.offset-offset.ensures) (omega arith)
