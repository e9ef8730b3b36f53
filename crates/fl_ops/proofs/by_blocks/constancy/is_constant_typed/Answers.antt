use Rattle.std.proofs.Common.{◌≡◌, ℕ, ◌+◌, ◌-◌, ◌*◌, ◌<◌, ◌∙◌, get_or, inl, inr, length, min, None, option_map, true, ap, arith, length-take, sym}
use Rattle.std.specs.List.{list_all}
use Rattle.std.proofs.lemmas.Bool.{cases_lt}
use Rattle.fl_types.specs.Bits.{between}
use Rattle.fl_column.specs.Queries.{same_item}
use Rattle.fl_column.proofs.QueryLaws.{constant_from_first}
use Rattle.fl_ops.proofs.BlockLaws.{part_differs, part_each}
use Rattle.fl_ops.proofs.by_blocks.constancy.is_constant_typed.Goals as goal

pub loop-j-init : goal.loop-j-init
loop-j-init g c = λ k h. absurd (omega arith)

pub loop-j-preserved : goal.loop-j-preserved
loop-j-preserved g c =
    let items = c.args.reader.now.column.items in
    let first = option_map g.T.Number.value c.item_at-first.result in
    let from = c.places-from.ensures.start in
    let to = c.places-from.ensures.end in
    let order = c.places-from.ensures.order in
    let taken = length-take (c.places-from.result.1 - c.places-from.result.0) c.loop-j.scratch in
    let kept = c.read.auto.items in
    let ends : c.places-from.result.0 + length c.read.new.items ≡ c.places-from.result.1 = omega arith in
    let part : list_all (same_item first) (between c.places-from.result.0 c.places-from.result.1 items) ≡ true = ap (λ (e : ℕ). list_all (same_item first) (between c.places-from.result.0 e items)) (sym ends) ∙ sym c.if-not-is_part_constant.ensures in
    λ k h. elim (cases_lt k c.places-from.result.0) [
      | inl before ↦ c.loop-j.invariant k (omega arith)
      | inr here ↦ ap (λ x. same_item x (get_or items k None)) (sym c.item_at-first.ensures) ∙ part_each (same_item first) items c.places-from.result.0 c.places-from.result.1 k None (omega arith) part here (omega arith)
    ]

pub returns-then-not-is_part_constant : goal.returns-then-not-is_part_constant
returns-then-not-is_part_constant g c =
    let items = c.args.reader.now.column.items in
    let first = option_map g.T.Number.value c.item_at-first.result in
    let from = c.places-from.ensures.start in
    let to = c.places-from.ensures.end in
    let order = c.places-from.ensures.order in
    let taken = length-take (c.places-from.result.1 - c.places-from.result.0) c.loop-j.scratch in
    let kept = c.read.auto.items in
    let ends : c.places-from.result.0 + length c.read.new.items ≡ c.places-from.result.1 = omega arith in
    sym (part_differs items first c.places-from.result.0 c.places-from.result.1 c.item_at-first.ensures order (omega arith) (omega arith)
    (ap (λ (e : ℕ). list_all (same_item first) (between c.places-from.result.0 e items)) (sym ends) ∙ sym c.if-not-is_part_constant.ensures))

pub returns : goal.returns
returns g c =
    let items = c.args.reader.now.column.items in
    let past = c.loop-j-test.false in
    let blocks = c.blocks-j-end.ensures in
    sym (constant_from_first items (λ i h. c.loop-j.invariant i (omega arith)))
