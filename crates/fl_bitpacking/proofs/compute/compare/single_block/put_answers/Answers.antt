use Rattle.std.proofs.Common.{◌≡◌, ◌+◌, length, map, option_map, unsigned_abs, unwrap_or, arith, ap, sym, ◌∙◌, rules}
use Rattle.fastlanes.specs.Compared.{has_bit}
use Rattle.fl_patches.proofs.Rising.{length-numbers_by}
use Rattle.fl_patches.specs.PatchMaps.{rank_of}
use Rattle.fl_bitpacking.specs.RangeTests.{passes}
use Rattle.fl_bitpacking.proofs.BlockAnswers.{bit_more}
use Rattle.fl_bitpacking.proofs.FoundBelow.{all_found, none_found}
use Rattle.fl_bitpacking.proofs.compute.compare.single_block.put_answers.Goals as goal

pub loop-k-init : goal.loop-k-init
loop-k-init g c = record {
  whole = search rules;
  put = λ i h. ap (λ o. unwrap_or (option_map (passes c.args.test.range) o) (has_bit c.args.bits.now (c.args.part.low + i))) (sym (none_found (map g.T.Number.value c.args.placed.values.now) (rank_of (c.args.placed.offset + i) (map unsigned_abs (map g.I.Number.value c.args.placed.indices.now)))));
}

pub loop-k-preserved : goal.loop-k-preserved
loop-k-preserved g c =
    let xs = map unsigned_abs (map g.I.Number.value c.args.placed.indices.now) in
    let low = c.args.part.low in
    let k = c.loop-k.k in
    let len = length-numbers_by g.I.Number.value c.args.placed.indices.now in
    let more = c.loop-k-test.true in
    record {
      whole = c.put_bit.ensures.whole;
      put = bit_more (passes c.args.test.range) (λ i. has_bit c.loop-k.bits (low + i)) (λ i. has_bit c.put_bit.new.bits (low + i)) (λ i. has_bit c.args.bits.now (low + i)) (map g.T.Number.value c.args.placed.values.now) xs c.args.placed.offset k c.place_of-place.result c.args.part.len
          c.requires.placed.rising (omega arith) (sym c.place_of-place.ensures) (c.put_bit.ensures.here ∙ c.passes_at-answer.ensures) (λ i other. c.put_bit.ensures.others (low + i) (λ e. other (omega arith))) c.loop-k.invariant.put;
    }

pub returns-clause-bits : goal.returns-clause-bits
returns-clause-bits g c i h =
    let xs = map unsigned_abs (map g.I.Number.value c.args.placed.indices.now) in
    let len = length-numbers_by g.I.Number.value c.args.placed.indices.now in
    let all : c.loop-k.k ≡ length xs = omega (arith, c.loop-k.auto) in
    c.loop-k.invariant.put i h ∙ ap (λ o. unwrap_or (option_map (passes c.args.test.range) o) (has_bit c.args.bits.now (c.args.part.low + i))) (all_found (map g.T.Number.value c.args.placed.values.now) xs (c.args.placed.offset + i) c.loop-k.k all)

pub place_of-place-requires-clause-above : goal.place_of-place-requires-clause-above
place_of-place-requires-clause-above g c =
    let len = length-numbers_by g.I.Number.value c.args.placed.indices.now in
    let more = c.loop-k-test.true in
    (c.requires.placed.within c.loop-k.k (omega arith)).0

pub passes_at-answer-requires-clause-inside : goal.passes_at-answer-requires-clause-inside
passes_at-answer-requires-clause-inside g c =
    let len = length-numbers_by g.I.Number.value c.args.placed.indices.now in
    let more = c.loop-k-test.true in
    let even = c.requires.placed.even in
    omega arith

pub put_bit-requires : goal.put_bit-requires
put_bit-requires g c =
    let len = length-numbers_by g.I.Number.value c.args.placed.indices.now in
    let more = c.loop-k-test.true in
    let place = c.place_of-place.ensures in
    let high = (c.requires.placed.within c.loop-k.k (omega arith)).1 in
    let block = c.requires.block in
    omega arith
