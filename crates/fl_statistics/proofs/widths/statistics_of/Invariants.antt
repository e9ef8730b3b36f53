use Rattle.std.proofs.Common.{◌≡◌, ◌≤◌, ◌+◌, ◌*◌, length, map}
use Rattle.fl_types.specs.Bits.{between}
use Rattle.fl_types.specs.Integers.{bits_of_type}
use Rattle.fl_codec.specs.Parts.{items_of_primitive}
use Rattle.fl_patches.specs.Exceptions.{histogram_of}
use Rattle.fl_statistics.specs.Differences.{less_references}
use Rattle.fl_statistics.specs.WidthTotals.{AreWidthTotals}
use Rattle.fl_statistics.proofs.widths.statistics_of.Given as goal

-- what the next block needs, the histogram of the blocks so far, and the totals of their best widths
abbrev pub invariant-loop-block : goal.invariant-loop-block
invariant-loop-block g l =
    let t = g.T.NativePType.PTYPE in
    let value = g.T.Number.value in
    let items = less_references t (value l.references.one) (map value l.references.list.now) (items_of_primitive (g.S.BlockSource.parts l.source)) in record {
      last : value l.last ≡ g.S.BlockSource.carried l.source l.block;
      counted : l.all ≡ histogram_of t (between 0 (1024 * l.block) items);
      room : length l.entries ≡ bits_of_type t + 1;
      totals : AreWidthTotals t items l.block l.totals;
      few : l.totals.widths ≤ 255 * l.block;
    }
