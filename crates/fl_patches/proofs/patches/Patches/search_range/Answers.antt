use Rattle.std.proofs.Common.{◌+◌, ◌/◌, refl}
use Rattle.fl_patches.specs.PatchMaps.{PatchesParts}
use Rattle.fl_patches.proofs.Parts.{sound, sound_offsets}
use Rattle.fl_patches.proofs.SearchRanges.{chunk_offset_is, chunk_range}
use Rattle.fl_patches.proofs.patches.Patches.search_range.Goals as goal

pub returns-in-Some-clause-range : goal.returns-in-Some-clause-range
returns-in-Some-clause-range c =
    let f = c.self.inside in
    let p : PatchesParts = record { array_len = f.array_len; offset = f.offset; indices = f.indices; values = f.values; chunk_offsets = f.chunk_offsets } in
    let k = c.args.i / 1024 in
    let offsets = c.in-Some.chunk_offsets in
    let all = c.len-num_patches.ensures.slots in
    let start = chunk_offset_is p offsets k c.len-num_patches.result c.offsets_of_chunk.result.0 c.self.invariant c.in-Some.is all c.offsets_of_chunk.ensures.start in
    let end = chunk_offset_is p offsets (k + 1) c.len-num_patches.result c.offsets_of_chunk.result.1 c.self.invariant c.in-Some.is all c.offsets_of_chunk.ensures.end in
    rw (← c.self.view_is) (chunk_range p k c.offsets_of_chunk.result.0 c.offsets_of_chunk.result.1 (sound p c.self.invariant) (sound_offsets p offsets c.self.invariant c.in-Some.is).start start end)

pub returns-in-Some-clause-narrow : goal.returns-in-Some-clause-narrow
returns-in-Some-clause-narrow c =
    let f = c.self.inside in
    let p : PatchesParts = record { array_len = f.array_len; offset = f.offset; indices = f.indices; values = f.values; chunk_offsets = f.chunk_offsets } in
    let k = c.args.i / 1024 in
    let offsets = c.in-Some.chunk_offsets in
    let all = c.len-num_patches.ensures.slots in
    let start = chunk_offset_is p offsets k c.len-num_patches.result c.offsets_of_chunk.result.0 c.self.invariant c.in-Some.is all c.offsets_of_chunk.ensures.start in
    let end = chunk_offset_is p offsets (k + 1) c.len-num_patches.result c.offsets_of_chunk.result.1 c.self.invariant c.in-Some.is all c.offsets_of_chunk.ensures.end in
    rw (← c.self.view_is, c.in-Some.is, start, end) refl
