use Rattle.std.proofs.Common.{◌≡◌, ℕ, ◌+◌, ◌*◌, length, map, ap, sym, ◌∙◌, arith}
use Rattle.std.proofs.lemmas.List.{length-take}
use Rattle.fl_column.specs.Chunks.{chunk_count}
use Rattle.fl_column.proofs.ItemLaws.{length-items_of}
use Rattle.fl_codec.specs.Parts.{items_of_primitive}
use Rattle.fl_patches.specs.Exceptions.{histogram_of}
use Rattle.fl_patches.proofs.BitCounts.{type_most}
use Rattle.fl_patches.proofs.Histograms.{histogram_of_zeros, length-histogram}
use Rattle.fl_patches.proofs.LeastTotals.{above_few, length-block_histogram}
use Rattle.fl_statistics.specs.Differences.{less_references}
use Rattle.fl_statistics.proofs.Counts.{above_part, few_of_part}
use Rattle.fl_statistics.proofs.Differences.{length-less, less_fits}
use Rattle.fl_statistics.proofs.WidthTotals.{exceptions_most, no_totals, whole_part}
use Rattle.fl_statistics.proofs.widths.statistics_of.Goals as goal

pub loop-block-init : goal.loop-block-init
loop-block-init g c =
    let t = g.T.NativePType.PTYPE in
    let value = g.T.Number.value in
    let p = g.S.BlockSource.parts c.args.source.now in
    let one = value c.args.references.now.one in
    let references = map value c.args.references.now.list.now in
    let items = less_references t one references (items_of_primitive p) in
    let long : length items ≡ length p.slots = length-less t one references (items_of_primitive p) ∙ length-items_of p.validity p.slots c.len.ensures.covered in
    record {
      last = c.zero-last.ensures ∙ sym (g.met.S.BlockSource.carried_law c.args.source.now);
      counted = histogram_of_zeros t _ (ap (λ n. n + 1) c.type_bits.ensures);
      room = omega (arith, type_most t, length-take {A = ℕ}, c.type_bits-2.ensures);
      totals = no_totals t items c.no_totals-totals.result c.no_totals-totals.ensures;
      few = let none = ap (λ totals. totals.widths) c.no_totals-totals.ensures in omega arith;
    }

pub count_block-requires-clause-even : goal.count_block-requires-clause-even
count_block-requires-clause-even g c = ap length c.loop-block.invariant.counted ∙ length-histogram g.T.NativePType.PTYPE _

pub count_block-requires-clause-fit : goal.count_block-requires-clause-fit
count_block-requires-clause-fit g c = λ k.
    let t = g.T.NativePType.PTYPE in
    let value = g.T.Number.value in
    let p = g.S.BlockSource.parts c.args.source.now in
    let one = value c.args.references.now.one in
    let references = map value c.args.references.now.list.now in
    let items = less_references t one references (items_of_primitive p) in
    let long : length items ≡ length p.slots = length-less t one references (items_of_primitive p) ∙ length-items_of p.validity p.slots c.len.ensures.covered in
    let few = few_of_part t items 0 (1024 * c.loop-block.block) c.loop-block.all k c.loop-block.invariant.counted in
    let more = c.loop-block-test.true in
    let count = c.len.ensures.count in
    let most = c.len.ensures.few in
    omega arith

pub add_block-totals-requires-clause-room : goal.add_block-totals-requires-clause-room
add_block-totals-requires-clause-room g c =
    let t = g.T.NativePType.PTYPE in
    let value = g.T.Number.value in
    let p = g.S.BlockSource.parts c.args.source.now in
    let one = value c.args.references.now.one in
    let references = map value c.args.references.now.list.now in
    let items = less_references t one references (items_of_primitive p) in
    let long : length items ≡ length p.slots = length-less t one references (items_of_primitive p) ∙ length-items_of p.validity p.slots c.len.ensures.covered in
    let block = c.count_block.ensures.block items c.loop-block.block c.write_differences-count.ensures.slots in
    ap length block ∙ length-block_histogram t items c.loop-block.block

pub add_block-totals-requires-clause-few : goal.add_block-totals-requires-clause-few
add_block-totals-requires-clause-few g c = λ width.
    let t = g.T.NativePType.PTYPE in
    let value = g.T.Number.value in
    let p = g.S.BlockSource.parts c.args.source.now in
    let one = value c.args.references.now.one in
    let references = map value c.args.references.now.list.now in
    let items = less_references t one references (items_of_primitive p) in
    let long : length items ≡ length p.slots = length-less t one references (items_of_primitive p) ∙ length-items_of p.validity p.slots c.len.ensures.covered in
    let block = c.count_block.ensures.block items c.loop-block.block c.write_differences-count.ensures.slots in
    above_few t width items c.loop-block.block c.count_block.new.entries block

pub add_block-totals-requires-clause-exceptions : goal.add_block-totals-requires-clause-exceptions
add_block-totals-requires-clause-exceptions g c =
    let t = g.T.NativePType.PTYPE in
    let value = g.T.Number.value in
    let p = g.S.BlockSource.parts c.args.source.now in
    let one = value c.args.references.now.one in
    let references = map value c.args.references.now.list.now in
    let items = less_references t one references (items_of_primitive p) in
    let long : length items ≡ length p.slots = length-less t one references (items_of_primitive p) ∙ length-items_of p.validity p.slots c.len.ensures.covered in
    let most = exceptions_most t items c.loop-block.block c.loop-block.totals c.loop-block.invariant.totals in
    let few = c.len.ensures.few in
    omega arith

pub loop-block-preserved : goal.loop-block-preserved
loop-block-preserved g c =
    let t = g.T.NativePType.PTYPE in
    let value = g.T.Number.value in
    let p = g.S.BlockSource.parts c.args.source.now in
    let one = value c.args.references.now.one in
    let references = map value c.args.references.now.list.now in
    let items = less_references t one references (items_of_primitive p) in
    let long : length items ≡ length p.slots = length-less t one references (items_of_primitive p) ∙ length-items_of p.validity p.slots c.len.ensures.covered in
    let block = c.count_block.ensures.block items c.loop-block.block c.write_differences-count.ensures.slots in
    let count = c.len.ensures.count in
    let more = c.add_block-totals.ensures.few in
    let so_far = c.loop-block.invariant.few in
    record {
      last = c.write_differences-count.ensures.last;
      counted = c.count_block.ensures.all items c.loop-block.block c.write_differences-count.ensures.slots c.loop-block.invariant.counted;
      room = ap length block ∙ length-block_histogram t items c.loop-block.block;
      totals = c.add_block-totals.ensures.totals items c.loop-block.block (omega arith) block c.loop-block.invariant.totals;
      few = omega arith;
    }

pub statistics_by-requires-clause-few : goal.statistics_by-requires-clause-few
statistics_by-requires-clause-few g c = λ width.
    let t = g.T.NativePType.PTYPE in
    let value = g.T.Number.value in
    let p = g.S.BlockSource.parts c.args.source.now in
    let one = value c.args.references.now.one in
    let references = map value c.args.references.now.list.now in
    let items = less_references t one references (items_of_primitive p) in
    let long : length items ≡ length p.slots = length-less t one references (items_of_primitive p) ∙ length-items_of p.validity p.slots c.len.ensures.covered in
    let few = above_part t width items (1024 * c.loop-block.block) c.loop-block.all c.loop-block.invariant.counted in
    let most = c.len.ensures.few in
    omega arith

pub returns : goal.returns
returns g c =
    let t = g.T.NativePType.PTYPE in
    let value = g.T.Number.value in
    let p = g.S.BlockSource.parts c.args.source.now in
    let one = value c.args.references.now.one in
    let references = map value c.args.references.now.list.now in
    let items = less_references t one references (items_of_primitive p) in
    let long : length items ≡ length p.slots = length-less t one references (items_of_primitive p) ∙ length-items_of p.validity p.slots c.len.ensures.covered in
    let count = c.len.ensures.count in
    let all : c.loop-block.block ≡ chunk_count (length items) = omega arith in
    c.statistics_by.ensures items (less_fits t one references (items_of_primitive p)) (c.loop-block.invariant.counted ∙ ap (histogram_of t) (whole_part items c.loop-block.block all)) (rw all at c.loop-block.invariant.totals)
