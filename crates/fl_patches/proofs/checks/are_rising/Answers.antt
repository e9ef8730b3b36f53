use Rattle.std.proofs.Common.{◌≡◌, ◌+◌, ◌-◌, get_or, nat_lt, sym, ap, ◌∙◌, inl, inr, arith}
use Rattle.std.proofs.lemmas.Bool.{cases_lt, le-ltb, lt-ltb}
use Rattle.fl_column.proofs.QueryLaws.{next_fails, next_holds}
use Rattle.fl_column.specs.Numbers.{numbers_by}
use Rattle.fl_patches.proofs.Rising.{length-numbers_by}
use Rattle.fl_patches.proofs.checks.are_rising.Goals as goal

pub returns-then-number_at : goal.returns-then-number_at
returns-then-number_at g c =
    let numbers = numbers_by g.I.Number.value c.args.indices.now in
    let len = length-numbers_by g.I.Number.value c.args.indices.now in
    let i = c.loop-i.i in
    let next : i - 1 + 1 ≡ i = omega arith in
    sym (next_fails nat_lt numbers (i - 1) 0 (omega arith) (rw (next, ← c.number_at.ensures, ← c.number_at-in-loop-i.ensures) (le-ltb _ _ c.if-number_at.true)))

pub loop-i-preserved : goal.loop-i-preserved
loop-i-preserved g c = λ k h. elim (cases_lt (k + 1) c.loop-i.i) [
  | inl before ↦ c.loop-i.invariant k before
  | inr here ↦
      let numbers = numbers_by g.I.Number.value c.args.indices.now in
      let before : c.loop-i.i - 1 ≡ k = omega arith in
      let this : c.loop-i.i ≡ k + 1 = omega arith in
      let low : c.number_at.result ≡ get_or numbers k 0 = c.number_at.ensures ∙ ap (λ n. get_or numbers n 0) before in
      let high : c.number_at-in-loop-i.result ≡ get_or numbers (k + 1) 0 = c.number_at-in-loop-i.ensures ∙ ap (λ n. get_or numbers n 0) this in
      lt-ltb _ _ (omega arith)
]

pub returns : goal.returns
returns g c =
    let numbers = numbers_by g.I.Number.value c.args.indices.now in
    let len = length-numbers_by g.I.Number.value c.args.indices.now in
    sym (next_holds nat_lt numbers 0 (λ k h. c.loop-i.invariant k (omega arith)))
