use Rattle.std.proofs.Common.{arith}
use Rattle.fl_patches.proofs.Parts.{ok_same}
use Rattle.fl_bitpacking.proofs.bitpack_compress.encoding.best_width.Goals as goal

pub count_exceptions-exceptions-requires : goal.count_exceptions-exceptions-requires
count_exceptions-exceptions-requires c =
    let items = ok_same _ _ c.in_ok-histogram.ensures.counts in
    let few = c.histogram_counts_each.ensures.few c.unwrap-width.result in
    let long = c.len-len.ensures.slots in
    rw (c.deref-3.ensures.value, items) (omega arith)
