use Rattle.std.proofs.Common.{◌≡◌, ℕ, pos, ◌+◌, ◌-◌, ◌*◌, ◌/◌, ◌%◌, ◌≤◌, ◌∙◌, ap, false, drop, get_or, length, length-drop, length-take, refl, rules, take, arith}
use Rattle.fl_types.specs.Integers.{lanes_of_type}
use Rattle.fl_types.specs.Types.{is_nullable}
use Rattle.fl_column.specs.Columns.{Column, integers_in}
use Rattle.fl_codec.specs.Deltas.{block_integer}
use Rattle.fl_codec.proofs.DeltaLaws.{lanes_is}
use Rattle.fl_bitpacking.specs.Blocks.{value_at}
use Rattle.fl_bitpacking.proofs.Slices.{part_written}
use Rattle.fl_array.proofs.DeltaLaws.{sound_deltas}
use Rattle.fl_array.proofs.ReadDeltas.{block_room, deltas_shown, slot_at, summed_at}
use Rattle.fl_array.proofs.reader.+reads.Goals as goal

pub deltas::read_deltas-loop-j-preserved : goal.deltas::read_deltas-loop-j-preserved
deltas::read_deltas-loop-j-preserved g t c =
    let value = g.T.Number.value in
    let ptype = g.T.NativePType.PTYPE in
    let a = c.args.array.now in
    let d = c.args.deltas.now.column in
    let bases = c.as_slice-bases.result.now in
    let first = c.offset_of_deltas.result + c.args.start in
    let items = c.loop-j.items in
    let new = c.sum_block.new.items in
    let j = c.loop-j.j in
    let lanes = c.LANES-lanes.result in
    let from = c.places_from-from.result.0 in
    let to = c.places_from-from.result.1 in
    let from_is = c.places_from-from.ensures.from in
    let to_is = c.places_from-from.ensures.to in
    let order = c.places_from-from.ensures.order in
    let room = c.places_from-from.ensures.room in
    let more = c.loop-j-test.true in
    let kept = c.loop-j.auto.items in
    let low_is = c.saturating_sub-low.ensures in
    let begun = c.loop-j.auto.j in
    let taken = length-take (to - from) (drop from items) in
    let rest = length-drop from items in
    let size : length (take (to - from) (drop from items)) ≡ to - from = omega arith in
    let written : length new ≡ to - from = let same = c.sum_block.auto.items in omega arith in
    let s = sound_deltas a c.prove_well_formed.ensures in
    let parts = c.requires.parts in
    let never : is_nullable d.dtype ≡ false = ap (λ (x : Column). is_nullable x.dtype) parts.own_deltas ∙ s.non_nullable_deltas in
    let named : lanes ≡ lanes_of_type ptype = c.LANES-lanes.ensures ∙ lanes_is ptype g.T.Physical.FastLanes.T g.T.Physical.FastLanes.LANES g.met.T.Physical.FastLanes.shape g.met.T.PhysicalPType.width_law in
    let chunks = c.chunk_count-j-end.ensures in
    let all : 1024 * j + 1024 ≤ length d.items = (block_room value a c.args.bases.now d ptype bases lanes j c.offset_of_deltas.result c.args.start (length c.args.items.now) c.len-count.result c.prove_well_formed.ensures parts c.requires.typed c.as_slice-bases.ensures c.len-count.ensures.slots c.len-count.ensures.items named c.offset_of_deltas.ensures.offset c.requires.range (omega arith)).0 in
    let wide : length c.read_items.new.items ≡ 1024 = search rules in
    let same_size = c.read_items.auto.items in
    λ i h. part_written value (λ k. block_integer ptype (value_at value bases) (λ n. get_or (integers_in d) n (pos 0)) ((first + k) / 1024) ((first + k) % 1024)) items new _ from to i (omega arith) written
    (λ k below. c.loop-j.invariant k (omega arith))
    (λ k below. summed_at value ptype bases _ c.read_items.new.items new d lanes j c.saturating_sub-low.result k (first + (from + k)) refl named parts.no_nulls never (λ q z below e. c.read_items.ensures q z (omega arith) e) all (omega arith) (omega arith) (c.sum_block.ensures k (omega arith)))
    (omega arith)

pub deltas::read_deltas-returns : goal.deltas::read_deltas-returns
deltas::read_deltas-returns g t c =
    let value = g.T.Number.value in
    let ptype = g.T.NativePType.PTYPE in
    let a = c.args.array.now in
    let d = c.args.deltas.now.column in
    let bases = c.as_slice-bases.result.now in
    let at = c.offset_of_deltas.ensures.offset in
    let len_is = c.len-len.ensures in
    let chunks = c.chunk_count-j-end.ensures in
    let kept = c.loop-j.auto.items in
    let last = c.loop-j.auto.j-end (omega arith) in
    let ended = c.loop-j-test.false in
    let range = c.requires.range in
    let room : c.args.start + length c.args.items.now ≤ a.parts.len = omega arith in
    deltas_shown a c.args.bases.now d ptype (value_at value bases) (value_at value c.loop-j.items) c.args.start (length c.args.items.now) c.prove_well_formed.ensures c.requires.parts c.requires.typed room
    (λ k. slot_at value bases c.args.bases.now.slots k c.as_slice-bases.ensures)
    (λ i h. (let place : c.offset_of_deltas.result + c.args.start + i ≡ a.parts.offset + (c.args.start + i) = omega arith in
    c.loop-j.invariant i (omega arith) ∙ ap (λ (p : ℕ). block_integer ptype (value_at value bases) (λ n. get_or (integers_in d) n (pos 0)) (p / 1024) (p % 1024)) place))

pub deltas::read_deltas-offset_bounds-bases-lanes : goal.deltas::read_deltas-offset_bounds-bases-lanes
deltas::read_deltas-offset_bounds-bases-lanes g t c =
    let value = g.T.Number.value in
    let ptype = g.T.NativePType.PTYPE in
    let a = c.args.array.now in
    let lanes = c.LANES-lanes.result in
    let chunks = c.chunk_count-j-end.ensures in
    let more = c.loop-j-test.true in
    let named : lanes ≡ lanes_of_type ptype = c.LANES-lanes.ensures ∙ lanes_is ptype g.T.Physical.FastLanes.T g.T.Physical.FastLanes.LANES g.met.T.Physical.FastLanes.shape g.met.T.PhysicalPType.width_law in
    let room = block_room value a c.args.bases.now c.args.deltas.now.column ptype c.as_slice-bases.result.now lanes c.loop-j.j c.offset_of_deltas.result c.args.start (length c.args.items.now) c.len-count.result c.prove_well_formed.ensures c.requires.parts c.requires.typed c.as_slice-bases.ensures c.len-count.ensures.slots c.len-count.ensures.items named c.offset_of_deltas.ensures.offset c.requires.range (omega arith) in
    let row = room.1 in
    omega arith

pub deltas::read_deltas-slice_bounds-own-end : goal.deltas::read_deltas-slice_bounds-own-end
deltas::read_deltas-slice_bounds-own-end g t c =
    let value = g.T.Number.value in
    let ptype = g.T.NativePType.PTYPE in
    let a = c.args.array.now in
    let lanes = c.LANES-lanes.result in
    let chunks = c.chunk_count-j-end.ensures in
    let more = c.loop-j-test.true in
    let named : lanes ≡ lanes_of_type ptype = c.LANES-lanes.ensures ∙ lanes_is ptype g.T.Physical.FastLanes.T g.T.Physical.FastLanes.LANES g.met.T.Physical.FastLanes.shape g.met.T.PhysicalPType.width_law in
    let room = block_room value a c.args.bases.now c.args.deltas.now.column ptype c.as_slice-bases.result.now lanes c.loop-j.j c.offset_of_deltas.result c.args.start (length c.args.items.now) c.len-count.result c.prove_well_formed.ensures c.requires.parts c.requires.typed c.as_slice-bases.ensures c.len-count.ensures.slots c.len-count.ensures.items named c.offset_of_deltas.ensures.offset c.requires.range (omega arith) in
    let row = room.1 in
    omega arith

pub deltas::read_deltas-sum_block-requires : goal.deltas::read_deltas-sum_block-requires
deltas::read_deltas-sum_block-requires g t c =
    let value = g.T.Number.value in
    let ptype = g.T.NativePType.PTYPE in
    let a = c.args.array.now in
    let lanes = c.LANES-lanes.result in
    let chunks = c.chunk_count-j-end.ensures in
    let more = c.loop-j-test.true in
    let named : lanes ≡ lanes_of_type ptype = c.LANES-lanes.ensures ∙ lanes_is ptype g.T.Physical.FastLanes.T g.T.Physical.FastLanes.LANES g.met.T.Physical.FastLanes.shape g.met.T.PhysicalPType.width_law in
    let room = block_room value a c.args.bases.now c.args.deltas.now.column ptype c.as_slice-bases.result.now lanes c.loop-j.j c.offset_of_deltas.result c.args.start (length c.args.items.now) c.len-count.result c.prove_well_formed.ensures c.requires.parts c.requires.typed c.as_slice-bases.ensures c.len-count.ensures.slots c.len-count.ensures.items named c.offset_of_deltas.ensures.offset c.requires.range (omega arith) in
    let row = room.1 in
    let j = c.loop-j.j in
    let items = c.loop-j.items in
    let bases = c.as_slice-bases.result.now in
    let from = c.places_from-from.result.0 in
    let to = c.places_from-from.result.1 in
    let from_is = c.places_from-from.ensures.from in
    let to_is = c.places_from-from.ensures.to in
    let order = c.places_from-from.ensures.order in
    let within = c.places_from-from.ensures.room in
    let kept = c.loop-j.auto.items in
    let low_is = c.saturating_sub-low.ensures in
    let begun = c.loop-j.auto.j in
    let taken = length-take (to - from) (drop from items) in
    let rest = length-drop from items in
    let part = length-take (lanes * j + lanes - lanes * j) (drop (lanes * j) bases) in
    let others = length-drop (lanes * j) bases in
    (search rules, (omega arith, (search rules, omega arith)))
