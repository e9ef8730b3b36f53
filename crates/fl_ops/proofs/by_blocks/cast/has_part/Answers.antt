use Rattle.std.proofs.Common.{◌≡◌, ◌+◌, ◌∙◌, get_or, inl, inr, length, None, ap, arith, sym}
use Rattle.std.proofs.lemmas.Bool.{cases_lt}
use Rattle.fl_types.specs.Integers.{fits}
use Rattle.fl_column.specs.Columns.{option_all}
use Rattle.fl_ops.proofs.BlockLaws.{part_all, part_not_all}
use Rattle.fl_ops.proofs.by_blocks.cast.has_part.Goals as goal

pub loop-i-init : goal.loop-i-init
loop-i-init g c = λ k low high. absurd (omega arith)

pub loop-i-preserved : goal.loop-i-preserved
loop-i-preserved g c =
    let items = c.args.reader.now.column.items in
    let test = option_all (fits g.T.NativePType.PTYPE) in
    λ k low high. elim (cases_lt k (c.args.start + c.loop-i.i)) [
      | inl before ↦ c.loop-i.invariant k low before
      | inr here ↦
          let place : k ≡ c.args.start + c.loop-i.i = omega arith in
          ap (λ m. test (get_or items m None)) place ∙ ap test (sym c.item_of.ensures) ∙ sym c.if-not-has_item.ensures
    ]

pub returns-then-not-has_item : goal.returns-then-not-has_item
returns-then-not-has_item g c =
    let items = c.args.reader.now.column.items in
    let test = option_all (fits g.T.NativePType.PTYPE) in
    let more = c.loop-i-test.true in
    let room = c.requires.range in
    sym (part_not_all test items c.args.start (c.args.start + length c.args.items.now) (c.args.start + c.loop-i.i) None room (omega arith) (omega arith) (ap test (sym c.item_of.ensures) ∙ sym c.if-not-has_item.ensures))

pub returns : goal.returns
returns g c =
    let items = c.args.reader.now.column.items in
    let past = c.loop-i-test.false in
    let room = c.requires.range in
    sym (part_all (option_all (fits g.T.NativePType.PTYPE)) items c.args.start (c.args.start + length c.args.items.now) None (omega arith) room (λ k low high. c.loop-i.invariant k low (omega arith)))
