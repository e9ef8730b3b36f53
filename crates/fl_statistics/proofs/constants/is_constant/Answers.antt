use Rattle.std.proofs.Common.{◌≡◌, None, get_or, length, map, ap, sym, refl, ◌∙◌, arith}
use Rattle.std.specs.List.{list_all}
use Rattle.fl_column.specs.Chunks.{chunk_count}
use Rattle.fl_column.specs.Queries.{same_item}
use Rattle.fl_column.proofs.ItemLaws.{length-items_of}
use Rattle.fl_codec.specs.Chunks.{chunk}
use Rattle.fl_codec.specs.Parts.{items_of_primitive}
use Rattle.fl_statistics.specs.Differences.{less_references}
use Rattle.fl_statistics.proofs.FirstItems.{all_equal, equal_after, not_equal}
use Rattle.fl_statistics.proofs.Differences.{length-less}
use Rattle.fl_statistics.proofs.WidthTotals.{whole_part}
use Rattle.fl_statistics.proofs.constants.is_constant.Goals as goal

pub loop-block-init : goal.loop-block-init
loop-block-init g c = record {
  last = c.zero-last.ensures ∙ sym (g.met.S.BlockSource.carried_law c.args.source.now);
  first = λ some. absurd (omega arith);
  equal = refl;
}

pub loop-block-preserved : goal.loop-block-preserved
loop-block-preserved g c =
    let t = g.T.NativePType.PTYPE in
    let value = g.T.Number.value in
    let p = g.S.BlockSource.parts c.args.source.now in
    let one = value c.args.references.now.one in
    let references = map value c.args.references.now.list.now in
    let items = less_references t one references (items_of_primitive p) in
    let long : length items ≡ length p.slots = length-less t one references (items_of_primitive p) ∙ length-items_of p.validity p.slots c.len.ensures.covered in
    let here : list_all (same_item (get_or items 0 None)) (chunk c.loop-block.block items) ≡ c.are_same.result = ap (λ x. list_all (same_item x) (chunk c.loop-block.block items)) (sym c.first_of-first.ensures) ∙ sym c.are_same.ensures in
    record {
      last = c.write_differences-count.ensures.last;
      first = λ some. c.first_of-first.ensures;
      equal = equal_after items c.loop-block.block (get_or items 0 None) c.loop-block.invariant.equal (here ∙ c.if-not-are_same.false);
    }

pub returns-then-not-are_same : goal.returns-then-not-are_same
returns-then-not-are_same g c =
    let t = g.T.NativePType.PTYPE in
    let value = g.T.Number.value in
    let p = g.S.BlockSource.parts c.args.source.now in
    let one = value c.args.references.now.one in
    let references = map value c.args.references.now.list.now in
    let items = less_references t one references (items_of_primitive p) in
    let long : length items ≡ length p.slots = length-less t one references (items_of_primitive p) ∙ length-items_of p.validity p.slots c.len.ensures.covered in
    let count = c.len.ensures.count in
    let more = c.loop-block-test.true in
    let here : list_all (same_item (get_or items 0 None)) (chunk c.loop-block.block items) ≡ c.are_same.result = ap (λ x. list_all (same_item x) (chunk c.loop-block.block items)) (sym c.first_of-first.ensures) ∙ sym c.are_same.ensures in
    sym (not_equal items c.loop-block.block (get_or items 0 None) refl (omega arith) (here ∙ c.if-not-are_same.true))

pub returns : goal.returns
returns g c =
    let t = g.T.NativePType.PTYPE in
    let value = g.T.Number.value in
    let p = g.S.BlockSource.parts c.args.source.now in
    let one = value c.args.references.now.one in
    let references = map value c.args.references.now.list.now in
    let items = less_references t one references (items_of_primitive p) in
    let long : length items ≡ length p.slots = length-less t one references (items_of_primitive p) ∙ length-items_of p.validity p.slots c.len.ensures.covered in
    let count = c.len.ensures.count in
    let all : c.loop-block.block ≡ chunk_count (length items) = omega arith in
    sym (all_equal items (get_or items 0 None) (λ some. refl) (ap (list_all (same_item (get_or items 0 None))) (sym (whole_part items c.loop-block.block all)) ∙ c.loop-block.invariant.equal))
