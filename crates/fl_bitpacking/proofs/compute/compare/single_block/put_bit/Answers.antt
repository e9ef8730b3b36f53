use Rattle.std.proofs.Common.{◌/◌, ◌%◌, ◌∙◌, sym, inl, inr, arith}
use Rattle.std.proofs.lemmas.Bool.{cases_eq}
use Rattle.fl_bitpacking.proofs.ComparedLaws.{bit_in_word, bit_of_its_word, bit_out_of_word}
use Rattle.fl_bitpacking.proofs.compute.compare.single_block.put_bit.Goals as goal

pub returns-clause-here : goal.returns-clause-here
returns-clause-here c = bit_in_word c.args.bits.now (c.args.i / 64) c.with_bit.result c.args.i (omega arith) (omega arith) ∙ c.with_bit.ensures.here

pub returns-clause-others : goal.returns-clause-others
returns-clause-others c j other = elim (cases_eq (j / 64) (c.args.i / 64)) [
  | inl same ↦ bit_in_word c.args.bits.now (c.args.i / 64) c.with_bit.result j (omega arith) same ∙ c.with_bit.ensures.others (j % 64) (omega arith) (λ e. other (omega arith)) ∙ sym (bit_of_its_word c.args.bits.now (c.args.i / 64) j same)
  | inr apart ↦ bit_out_of_word c.args.bits.now (c.args.i / 64) c.with_bit.result j apart
]
