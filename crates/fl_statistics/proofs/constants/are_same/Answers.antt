use Rattle.std.proofs.Common.{None, get_or, map, option_map, ap, sym, ◌∙◌, arith, inl, inr}
use Rattle.std.proofs.lemmas.Bool.{cases_eq}
use Rattle.fl_column.specs.Queries.{same_item}
use Rattle.fl_column.proofs.ListLaws.{all_fails, all_from}
use Rattle.fl_codec.specs.Chunks.{chunk}
use Rattle.fl_codec.specs.Parts.{items_of_primitive}
use Rattle.fl_patches.proofs.Histograms.{word_value}
use Rattle.fl_statistics.specs.Differences.{less_references}
use Rattle.fl_statistics.proofs.Slots.{block_length}
use Rattle.fl_statistics.proofs.constants.are_same.Goals as goal

pub returns-then-not-is_same_item : goal.returns-then-not-is_same_item
returns-then-not-is_same_item g c =
    let value = g.T.Number.value in
    let read = word_value g.T.Physical.FastLanes.pattern g.T.NativePType.PTYPE in
    let items = chunk c.args.block (less_references g.T.NativePType.PTYPE (value c.args.references.now.one) (map value c.args.references.now.list.now) (items_of_primitive (g.S.BlockSource.parts c.args.source.now))) in
    let first = option_map value c.args.first in
    let even = block_length read c.args.words.now items c.requires.written in
    let more = c.loop-q-test.true in
    sym (all_fails (same_item first) items c.loop-q.q None (omega arith) (ap (same_item first) (sym c.item_in.ensures) ∙ (sym c.is_same_item.ensures ∙ c.if-not-is_same_item.true)))

pub loop-q-preserved : goal.loop-q-preserved
loop-q-preserved g c = λ j h.
    let value = g.T.Number.value in
    let items = chunk c.args.block (less_references g.T.NativePType.PTYPE (value c.args.references.now.one) (map value c.args.references.now.list.now) (items_of_primitive (g.S.BlockSource.parts c.args.source.now))) in
    let first = option_map value c.args.first in
    elim (cases_eq j c.loop-q.q) [
      | inl same ↦ ap (λ n. same_item first (get_or items n None)) same ∙ (ap (same_item first) (sym c.item_in.ensures) ∙ (sym c.is_same_item.ensures ∙ c.if-not-is_same_item.false))
      | inr other ↦ c.loop-q.invariant j (omega arith)
    ]

pub returns : goal.returns
returns g c =
    let value = g.T.Number.value in
    let read = word_value g.T.Physical.FastLanes.pattern g.T.NativePType.PTYPE in
    let items = chunk c.args.block (less_references g.T.NativePType.PTYPE (value c.args.references.now.one) (map value c.args.references.now.list.now) (items_of_primitive (g.S.BlockSource.parts c.args.source.now))) in
    let first = option_map value c.args.first in
    let even = block_length read c.args.words.now items c.requires.written in
    let over = c.loop-q-test.false in
    sym (all_from (same_item first) items None (λ j h. c.loop-q.invariant j (omega arith)))
