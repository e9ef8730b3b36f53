use Rattle.std.proofs.Common.{◌+◌, ◌*◌, ◌≤◌, ◌∙◌, length, take, arith, rules, refl, ap, sym}
use Rattle.fl_bitpacking.proofs.Natives.{few_words, packed_by_items}
use Rattle.fl_bitpacking.proofs.WordLaws.{block_added, front_words, words_kept, words_more}
use Rattle.fl_bitpacking.proofs.bitpack_compress.word_packing.push_block.Goals as goal

pub slice_bounds-words-end : goal.slice_bounds-words-end
slice_bounds-words-end g c =
    let few : c.args.width * c.LANES-lanes.result ≤ 1024 = rw c.LANES-lanes.ensures (few_words g.T.Physical.FastLanes.T g.T.Physical.FastLanes.LANES c.args.width g.met.T.Physical.FastLanes.shape c.requires.width) in
    let words = c.requires.words in
    omega arith

pub returns-clause-long : goal.returns-clause-long
returns-clause-long g c =
    let old = c.args.packed.now.items in
    let words = c.pack.new.packed in
    let block = front_words g.T.Physical.FastLanes.T g.T.Physical.FastLanes.LANES c.args.width c.LANES-lanes.result c.args.words.now words g.met.T.Physical.FastLanes.shape c.requires.width c.LANES-lanes.ensures c.requires.words c.pack.auto.packed in
    words_more g.T.Physical.FastLanes.pattern g.T.Number.value g.T.NativePType.PTYPE old c.push_values.new.values.items words c.in_ok-push_values.ensures.values ∙ ap (λ n. length old + n) block

pub returns-clause-before : goal.returns-clause-before
returns-clause-before g c m h = words_kept g.T.Number.value g.T.NativePType.PTYPE c.args.packed.now.items _ _ c.in_ok-push_values.ensures.values m h

pub returns-clause-packed : goal.returns-clause-packed
returns-clause-packed g c =
    let words = c.pack.new.packed in
    let block = front_words g.T.Physical.FastLanes.T g.T.Physical.FastLanes.LANES c.args.width c.LANES-lanes.result c.args.words.now words g.met.T.Physical.FastLanes.shape c.requires.width c.LANES-lanes.ensures c.requires.words c.pack.auto.packed in
    let packed = packed_by_items _ _ c.args.width _ _ _ g.met.T.Physical.FastLanes.shape (λ i h. sym (c.write_padded_patterns.ensures.patterns i h)) c.pack.ensures in
    block_added g.T.Physical.FastLanes.pattern g.T.Number.value g.T.NativePType.PTYPE g.T.Physical.FastLanes.T g.T.Physical.FastLanes.LANES c.args.width _ c.args.packed.now.items _ words g.met.T.Physical.FastLanes.shape g.met.T.PhysicalPType.width_law block
    c.in_ok-push_values.ensures.values c.words_are_in_range.ensures packed

pub overflow_mul-words : goal.overflow_mul-words
overflow_mul-words g c =
    let few : c.args.width * c.LANES-lanes.result ≤ 1024 = rw c.LANES-lanes.ensures (few_words g.T.Physical.FastLanes.T g.T.Physical.FastLanes.LANES c.args.width g.met.T.Physical.FastLanes.shape c.requires.width) in
    omega arith

pub pack-requires : goal.pack-requires
pack-requires g c =
    let lanes = c.LANES-lanes.result in
    let front = take (c.args.width * lanes) c.args.words.now in
    (search rules, (c.requires.width, front_words g.T.Physical.FastLanes.T g.T.Physical.FastLanes.LANES c.args.width lanes c.args.words.now front g.met.T.Physical.FastLanes.shape c.requires.width c.LANES-lanes.ensures c.requires.words refl))

pub slice_bounds-words-end-2 : goal.slice_bounds-words-end-2
slice_bounds-words-end-2 g c =
    let lanes = c.LANES-lanes.result in
    let front = take (c.args.width * lanes) c.args.words.now in
    let block = front_words g.T.Physical.FastLanes.T g.T.Physical.FastLanes.LANES c.args.width lanes c.args.words.now front g.met.T.Physical.FastLanes.shape c.requires.width c.LANES-lanes.ensures c.requires.words refl in
    ap (λ n. c.args.width * n) c.LANES-lanes.ensures ∙ sym block
