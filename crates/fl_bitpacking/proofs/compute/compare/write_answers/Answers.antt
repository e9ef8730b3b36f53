use Rattle.std.proofs.Common.{◌≡◌, ◌<◌, ◌+◌, ◌/◌, false, length, map, option_map, unsigned_abs, unwrap_or, get_or, arith, refl, pos, ap, sym, ◌∙◌, length-set}
use Rattle.fl_column.specs.Chunks.{chunk_count}
use Rattle.fl_bitpacking.specs.Compared.{passes_in}
use Rattle.fl_bitpacking.proofs.BlockTestLaws.{tests_of_fewer}
use Rattle.fl_bitpacking.proofs.ComparedLaws.{answer_more}
use Rattle.fl_bitpacking.proofs.FoundBelow.{all_found, none_found}
use Rattle.fl_patches.proofs.Rising.{length-numbers_by}
use Rattle.fl_patches.specs.PatchMaps.{rank_of}
use Rattle.fl_bitpacking.proofs.compute.compare.write_answers.Goals as goal

pub loop-k-init : goal.loop-k-init
loop-k-init g c = record {
  whole = refl;
  put = λ i h. ap (λ o. unwrap_or (option_map (passes_in c.args.tests ((c.args.first + i) / 1024)) o) (get_or c.args.bits.now i false)) (sym (none_found (map g.T.Number.value c.args.placed.values.now) (rank_of (c.args.placed.offset + i) (map unsigned_abs (map g.I.Number.value c.args.placed.indices.now)))));
}

pub loop-k-preserved : goal.loop-k-preserved
loop-k-preserved g c =
    let xs = map unsigned_abs (map g.I.Number.value c.args.placed.indices.now) in
    let k = c.loop-k.k in
    let len = length-numbers_by g.I.Number.value c.args.placed.indices.now in
    let more = c.loop-k-test.true in
    let whole = c.loop-k.invariant.whole in
    let place = c.place_of-place.ensures in
    let within = c.requires.placed.within k (omega arith) in
    let room : c.place_of-place.result < length c.loop-k.bits = let high = within.1 in omega arith in
    let step = answer_more (λ i. passes_in c.args.tests ((c.args.first + i) / 1024)) c.loop-k.bits (λ i. get_or c.args.bits.now i false) (map g.T.Number.value c.args.placed.values.now) xs c.args.placed.offset k c.place_of-place.result c.passes_at-answer.result c.requires.placed.rising (omega arith) (sym place) room (c.passes_at-answer.ensures ∙ c.of_block-test.ensures.sums (get_or (map g.T.Number.value c.args.placed.values.now) k (pos 0))) c.loop-k.invariant.put in
    record {
      whole = rw (c.set.ensures, length-set) whole;
      put = rw (c.set.ensures) (λ i h. step i (rw length-set at h));
    }

pub returns-clause-bits : goal.returns-clause-bits
returns-clause-bits g c i h =
    let xs = map unsigned_abs (map g.I.Number.value c.args.placed.indices.now) in
    let len = length-numbers_by g.I.Number.value c.args.placed.indices.now in
    let all : c.loop-k.k ≡ length xs = omega (arith, c.loop-k.auto) in
    let whole = c.loop-k.invariant.whole in
    c.loop-k.invariant.put i (omega arith) ∙ ap (λ o. unwrap_or (option_map (passes_in c.args.tests ((c.args.first + i) / 1024)) o) (get_or c.args.bits.now i false)) (all_found (map g.T.Number.value c.args.placed.values.now) xs (c.args.placed.offset + i) c.loop-k.k all)

pub place_of-place-requires-clause-above : goal.place_of-place-requires-clause-above
place_of-place-requires-clause-above g c =
    let len = length-numbers_by g.I.Number.value c.args.placed.indices.now in
    let more = c.loop-k-test.true in
    (c.requires.placed.within c.loop-k.k (omega arith)).0

pub passes_at-answer-requires-clause-inside : goal.passes_at-answer-requires-clause-inside
passes_at-answer-requires-clause-inside g c =
    let len = length-numbers_by g.I.Number.value c.args.placed.indices.now in
    let more = c.loop-k-test.true in
    let even = c.requires.placed.even in
    omega arith

pub set-requires : goal.set-requires
set-requires g c =
    let len = length-numbers_by g.I.Number.value c.args.placed.indices.now in
    let more = c.loop-k-test.true in
    let whole = c.loop-k.invariant.whole in
    let place = c.place_of-place.ensures in
    let high = (c.requires.placed.within c.loop-k.k (omega arith)).1 in
    omega arith

pub overflow_add-first : goal.overflow_add-first
overflow_add-first g c =
    let len = length-numbers_by g.I.Number.value c.args.placed.indices.now in
    let more = c.loop-k-test.true in
    let place = c.place_of-place.ensures in
    let high = (c.requires.placed.within c.loop-k.k (omega arith)).1 in
    let few = c.requires.few in
    omega arith

pub of_block-test-requires : goal.of_block-test-requires
of_block-test-requires g c =
    let len = length-numbers_by g.I.Number.value c.args.placed.indices.now in
    let more = c.loop-k-test.true in
    let place = c.place_of-place.ensures in
    let high = (c.requires.placed.within c.loop-k.k (omega arith)).1 in
    tests_of_fewer (chunk_count (c.args.first + length c.args.bits.now)) ((c.args.first + c.place_of-place.result) / 1024 + 1) c.args.tests (omega arith) c.requires.tests
