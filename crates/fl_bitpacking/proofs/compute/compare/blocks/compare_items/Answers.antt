use Rattle.std.proofs.Common.{◌≡◌, ◌*◌, ◌+◌, ◌∙◌, ℕ, ℤ, pos, Bool, get_or, map, inl, inr, arith, length-set, rules}
use Rattle.std.proofs.lemmas.Bool.{cases_lt}
use Rattle.fl_types.specs.Integers.{fits, pattern_of}
use Rattle.fl_bitpacking.specs.RangeTests.{in_range}
use Rattle.fl_bitpacking.proofs.BlockAnswers.{bit_answered, in_word}
use Rattle.fl_bitpacking.proofs.ComparedLaws.{bit_out_of_word}
use Rattle.fl_bitpacking.proofs.compute.compare.blocks.compare_items.Goals as goal

pub loop-k-preserved : goal.loop-k-preserved
loop-k-preserved g c =
    let whole = c.loop-k.invariant.whole in
    let bits = c.loop-k.bits in
    let k = c.loop-k.k in
    let ptype = g.T.NativePType.PTYPE in
    let pattern = g.T.Physical.FastLanes.pattern in
    let test : ℤ → Bool = λ z. in_range g.T.Physical.FastLanes.T (pattern c.args.low) (pattern c.args.span) (pattern_of ptype z) in
    let zs = map g.T.Number.value c.args.items.now in
    record {
      done = λ i h. elim (cases_lt i (64 * k)) [
        | inl before ↦ bit_out_of_word bits k c.word_of.result i (omega arith) ∙ c.loop-k.invariant.done i before
        | inr here ↦ bit_answered test zs bits c.word_of.result k i (omega arith) (omega arith) (λ j below. let e = c.word_of.ensures j below in search rules)
      ];
      fit = λ i h. elim (cases_lt i (64 * k)) [
        | inl before ↦ c.loop-k.invariant.fit i before
        | inr here ↦ in_word ptype zs k i (omega arith) (λ j below. let e = c.word_of.ensures j below in search rules)
      ];
      whole = rw length-set whole;
    }
