use Rattle.std.proofs.Common.{◌/◌, ◌%◌, ◌∙◌, inl, inr, arith, length-set}
use Rattle.std.proofs.lemmas.Bool.{cases_eq}
use Rattle.std.proofs.lemmas.List.{get_or-set_same, get_or-set_other}
use Rattle.fl_bitpacking.proofs.ComparedLaws.{filled_bit}
use Rattle.fl_bitpacking.proofs.compute.compare.fill.Goals as goal

pub loop-k-preserved : goal.loop-k-preserved
loop-k-preserved c =
    let whole = c.loop-k.invariant.whole in
    record {
      done = λ j h. elim (cases_eq j c.loop-k.k) [
        | inl same ↦ rw same (get_or-set_same c.loop-k.bits c.loop-k.k _ 0 (omega arith))
        | inr other ↦ get_or-set_other c.loop-k.bits c.loop-k.k j _ 0 other ∙ c.loop-k.invariant.done j (omega arith)
      ];
      whole = rw length-set whole;
    }

pub returns-clause-bits : goal.returns-clause-bits
returns-clause-bits c i h = filled_bit c.loop-k.bits _ i c.args.on (c.loop-k.invariant.done (i / 64) (omega arith)) (c.uniform_word-word.ensures (i % 64) (omega arith))
