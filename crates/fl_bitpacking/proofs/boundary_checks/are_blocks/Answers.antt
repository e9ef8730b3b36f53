use Rattle.std.proofs.Common.{refl, ◌≡◌, ◌+◌, ◌-◌, get_or, sym, ap, ◌∙◌, inl, inr, arith, ℕ}
use Rattle.std.specs.Prelude.{unsigned_abs}
use Rattle.std.proofs.lemmas.Bool.{cases_lt}
use Rattle.std.proofs.lemmas.List.{length-map}
use Rattle.fl_column.proofs.QueryLaws.{next_fails, next_holds}
use Rattle.fl_column.specs.Numbers.{numbers}
use Rattle.fl_bitpacking.specs.Blocks.{is_block}
use Rattle.fl_bitpacking.proofs.boundary_checks.are_blocks.Goals as goal

-- the test of two neighbours, by what they are
same_test : (bits size first start end a b d : ℕ) → a ≡ first → b ≡ start → d ≡ end → is_block bits size a b d ≡ is_block bits size first start end
same_test bits size first start end a b d e f g = rw (e, f, g) refl

pub returns-then-not-is_block : goal.returns-then-not-is_block
returns-then-not-is_block c =
    let boundaries = numbers c.args.boundaries.now in
    let len = length-map c.args.boundaries.now.slots unsigned_abs in
    let j = c.loop-j.j in
    let next : j - 1 + 1 ≡ j = omega arith in
    let same = same_test c.args.bits c.args.size (get_or boundaries 0 0) (get_or boundaries (j - 1) 0) (get_or boundaries (j - 1 + 1) 0) _ _ _ c.number_at-first.ensures c.number_at-start.ensures (c.number_at.ensures ∙ ap (λ n. get_or boundaries n 0) (sym next)) in
    sym (next_fails (is_block c.args.bits c.args.size (get_or boundaries 0 0)) boundaries (j - 1) 0 (omega arith) (sym same ∙ (sym c.is_block.ensures ∙ c.if-not-is_block.true)))

pub loop-j-preserved : goal.loop-j-preserved
loop-j-preserved c = λ k h. elim (cases_lt (k + 1) c.loop-j.j) [
  | inl before ↦ c.loop-j.invariant k before
  | inr here ↦
      let boundaries = numbers c.args.boundaries.now in
      let before : c.loop-j.j - 1 ≡ k = omega arith in
      let this : c.loop-j.j ≡ k + 1 = omega arith in
      let same = same_test c.args.bits c.args.size (get_or boundaries 0 0) (get_or boundaries k 0) (get_or boundaries (k + 1) 0) _ _ _ c.number_at-first.ensures (c.number_at-start.ensures ∙ ap (λ n. get_or boundaries n 0) before) (c.number_at.ensures ∙ ap (λ n. get_or boundaries n 0) this) in
      sym same ∙ (sym c.is_block.ensures ∙ c.if-not-is_block.false)
]

pub returns : goal.returns
returns c =
    let boundaries = numbers c.args.boundaries.now in
    let len = length-map c.args.boundaries.now.slots unsigned_abs in
    sym (next_holds (is_block c.args.bits c.args.size (get_or boundaries 0 0)) boundaries 0 (λ k h. c.loop-j.invariant k (omega arith)))
