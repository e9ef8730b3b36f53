use Rattle.std.proofs.Common.{◌*◌, ◌∙◌, map, inl, inr, arith, length-set, rules}
use Rattle.std.proofs.lemmas.Bool.{cases_lt}
use Rattle.fl_bitpacking.proofs.BlockAnswers.{bit_answered}
use Rattle.fl_bitpacking.proofs.ComparedLaws.{bit_out_of_word}
use Rattle.fl_scan.specs.Membership.{is_one_of}
use Rattle.fl_scan.proofs.one_of.find_each.Goals as goal

pub loop-k-preserved : goal.loop-k-preserved
loop-k-preserved g c =
    let whole = c.loop-k.invariant.whole in
    let bits = c.loop-k.bits in
    let k = c.loop-k.k in
    let value = g.T.Number.value in
    record {
      done = λ i h. elim (cases_lt i (64 * k)) [
        | inl before ↦ bit_out_of_word bits k c.word_of.result i (omega arith) ∙ c.loop-k.invariant.done i before
        | inr here ↦ bit_answered (is_one_of (map value c.args.list.now)) (map value c.args.items.now) bits c.word_of.result k i (omega arith) (omega arith) (λ j below. let e = c.word_of.ensures j below in search rules)
      ];
      whole = rw length-set whole;
    }
