use Rattle.std.proofs.Common.{◌≡◌, ◌+◌, ◌-◌, ◌∙◌, None, Some, ap, arith, get_or, inl, inr, length, sym}
use Rattle.std.proofs.lemmas.Bool.{cases_lt}
use Rattle.fl_bitpacking.specs.Blocks.{value_at}
use Rattle.fl_array.proofs.ReadLaws.{all_shown}
use Rattle.fl_array.proofs.reader.to_primitive.collect.Goals as goal

pub loop-k-preserved : goal.loop-k-preserved
loop-k-preserved g c =
    let items = c.loop-k.items.items in
    let before = c.loop-k.invariant.long in
    let after = c.in_ok-push_items.ensures.long in
    record {
      long = omega arith;
      done = λ i z h e. elim (cases_lt i (length items)) [
        | inl low ↦ c.in_ok-push_items.ensures.before i low ∙ c.loop-k.invariant.done i z low e
        | inr high ↦
            let place : length items + (i - length items) ≡ i = omega arith in
            let first : 0 + i ≡ i = omega arith in
            let item : get_or c.args.reader.now.column.items (length items + (i - length items)) None ≡ Some z = ap (λ n. get_or c.args.reader.now.column.items n None) (place ∙ sym first) ∙ e in
            ap (λ n. value_at g.T.Number.value c.push_items.new.items.items n) (sym place) ∙ c.in_ok-push_items.ensures.part (i - length items) z (omega arith) item
      ];
    }

pub returns-clause-items : goal.returns-clause-items
returns-clause-items g c = all_shown g.T.Number.value c.args.reader.now.column c.loop-k.items.items (let long = c.loop-k.invariant.long in omega arith) c.loop-k.invariant.done
