use Rattle.std.proofs.Common.{◌≡◌, ◌+◌, ◌-◌, ◌*◌, ◌∙◌, drop, length, length-drop, length-take, refl, rules, arith}
use Rattle.fl_types.specs.Integers.{lanes_of_type}
use Rattle.fl_codec.proofs.DeltaLaws.{lanes_is}
use Rattle.fl_bitpacking.specs.RangeTests.{passes}
use Rattle.fl_array.proofs.BlockTests.{delta_block_tested, delta_room}
use Rattle.fl_array.proofs.reader.block_tests.test_delta_block.Goals as goal

pub read_items-requires-clause-range : goal.read_items-requires-clause-range
read_items-requires-clause-range g c =
    let value = g.T.Number.value in
    let ptype = g.T.NativePType.PTYPE in
    let a = c.args.array.now in
    let lanes = c.LANES-lanes.result in
    let named : lanes ≡ lanes_of_type ptype = c.LANES-lanes.ensures ∙ lanes_is ptype g.T.Physical.FastLanes.T g.T.Physical.FastLanes.LANES g.met.T.Physical.FastLanes.shape g.met.T.PhysicalPType.width_law in
    let room = delta_room value a c.args.bases.now c.args.deltas.now.column ptype c.as_slice-bases.result.now lanes c.args.j c.len-count.result c.prove_well_formed.ensures c.requires.parts c.requires.typed c.as_slice-bases.ensures c.len-count.ensures.slots c.len-count.ensures.items named c.requires.block in
    let all = room.0 in
    let wide : length c.args.scratch.now ≡ 1024 = search rules in
    omega arith

pub offset_bounds-bases-lanes : goal.offset_bounds-bases-lanes
offset_bounds-bases-lanes g c =
    let value = g.T.Number.value in
    let ptype = g.T.NativePType.PTYPE in
    let a = c.args.array.now in
    let lanes = c.LANES-lanes.result in
    let named : lanes ≡ lanes_of_type ptype = c.LANES-lanes.ensures ∙ lanes_is ptype g.T.Physical.FastLanes.T g.T.Physical.FastLanes.LANES g.met.T.Physical.FastLanes.shape g.met.T.PhysicalPType.width_law in
    let room = delta_room value a c.args.bases.now c.args.deltas.now.column ptype c.as_slice-bases.result.now lanes c.args.j c.len-count.result c.prove_well_formed.ensures c.requires.parts c.requires.typed c.as_slice-bases.ensures c.len-count.ensures.slots c.len-count.ensures.items named c.requires.block in
    let row = room.1 in
    omega arith

pub slice_bounds-own-end : goal.slice_bounds-own-end
slice_bounds-own-end g c =
    let value = g.T.Number.value in
    let ptype = g.T.NativePType.PTYPE in
    let a = c.args.array.now in
    let lanes = c.LANES-lanes.result in
    let named : lanes ≡ lanes_of_type ptype = c.LANES-lanes.ensures ∙ lanes_is ptype g.T.Physical.FastLanes.T g.T.Physical.FastLanes.LANES g.met.T.Physical.FastLanes.shape g.met.T.PhysicalPType.width_law in
    let room = delta_room value a c.args.bases.now c.args.deltas.now.column ptype c.as_slice-bases.result.now lanes c.args.j c.len-count.result c.prove_well_formed.ensures c.requires.parts c.requires.typed c.as_slice-bases.ensures c.len-count.ensures.slots c.len-count.ensures.items named c.requires.block in
    let row = room.1 in
    omega arith

pub test_deltas-requires : goal.test_deltas-requires
test_deltas-requires g c =
    let value = g.T.Number.value in
    let ptype = g.T.NativePType.PTYPE in
    let a = c.args.array.now in
    let lanes = c.LANES-lanes.result in
    let named : lanes ≡ lanes_of_type ptype = c.LANES-lanes.ensures ∙ lanes_is ptype g.T.Physical.FastLanes.T g.T.Physical.FastLanes.LANES g.met.T.Physical.FastLanes.shape g.met.T.PhysicalPType.width_law in
    let room = delta_room value a c.args.bases.now c.args.deltas.now.column ptype c.as_slice-bases.result.now lanes c.args.j c.len-count.result c.prove_well_formed.ensures c.requires.parts c.requires.typed c.as_slice-bases.ensures c.len-count.ensures.slots c.len-count.ensures.items named c.requires.block in
    let row = room.1 in
    let bases = c.as_slice-bases.result.now in
    let j = c.args.j in
    let part = length-take (lanes * j + lanes - lanes * j) (drop (lanes * j) bases) in
    let others = length-drop (lanes * j) bases in
    let wide : length c.read_items.new.items ≡ 1024 = search rules in
    (search rules, (c.requires.test, (omega arith, wide)))

pub returns-clause-answers : goal.returns-clause-answers
returns-clause-answers g c =
    let value = g.T.Number.value in
    let ptype = g.T.NativePType.PTYPE in
    let a = c.args.array.now in
    let lanes = c.LANES-lanes.result in
    let named : lanes ≡ lanes_of_type ptype = c.LANES-lanes.ensures ∙ lanes_is ptype g.T.Physical.FastLanes.T g.T.Physical.FastLanes.LANES g.met.T.Physical.FastLanes.shape g.met.T.PhysicalPType.width_law in
    let room = delta_room value a c.args.bases.now c.args.deltas.now.column ptype c.as_slice-bases.result.now lanes c.args.j c.len-count.result c.prove_well_formed.ensures c.requires.parts c.requires.typed c.as_slice-bases.ensures c.len-count.ensures.slots c.len-count.ensures.items named c.requires.block in
    let wide : length c.read_items.new.items ≡ 1024 = search rules in
    delta_block_tested value (passes c.args.range) a c.args.bases.now c.args.deltas.now.column ptype c.as_slice-bases.result.now _ c.read_items.new.items lanes c.args.j c.test_deltas.new.bits c.prove_well_formed.ensures c.requires.parts c.requires.typed c.as_slice-bases.ensures refl named room.0
    (λ q z below e. c.read_items.ensures q z (omega arith) e) c.test_deltas.ensures.bits
