use Rattle.std.proofs.Common.{◌≡◌, ◌+◌, arith}
use Rattle.fl_types.specs.Bits.{between}
use Rattle.fl_column.specs.Numbers.{numbers_by}
use Rattle.fl_patches.specs.PatchMaps.{count_below}
use Rattle.fl_patches.proofs.Rising.{length-numbers_by}
use Rattle.fl_patches.proofs.SearchRanges.{count_of_part, numbers_by-between}
use Rattle.fl_patches.proofs.indices.count_between.Goals as goal

pub returns-then-indices-start-ge-COMPARED : goal.returns-then-indices-start-ge-COMPARED
returns-then-indices-start-ge-COMPARED g c =
    let value = g.I.Number.value in
    let xs = numbers_by value c.args.indices.now in
    let len = length-numbers_by value c.args.indices.now in
    let start = c.narrowed-start.result.0 in
    let low = c.narrowed-start.ensures.low in
    let high = c.narrowed-start.ensures.high in
    let few = c.narrowed-start.ensures.few in
    let room = c.if-indices-start-ge-COMPARED.true in
    let part : start + count_below c.args.limit (between start (start + 16) xs) ≡ count_below c.args.limit xs = count_of_part xs start (start + 16) c.args.limit c.requires.rising low (omega arith) (omega arith) in
    rw (c.count_each.ensures, numbers_by-between value c.args.indices.now start (start + 16)) part

pub returns-else-indices-start-ge-COMPARED : goal.returns-else-indices-start-ge-COMPARED
returns-else-indices-start-ge-COMPARED g c =
    let value = g.I.Number.value in
    let xs = numbers_by value c.args.indices.now in
    let len = length-numbers_by value c.args.indices.now in
    let start = c.narrowed-start.result.0 in
    let end = c.narrowed-start.result.1 in
    let within = c.narrowed-start.ensures.within in
    let part : start + count_below c.args.limit (between start end xs) ≡ count_below c.args.limit xs = count_of_part xs start end c.args.limit c.requires.rising c.narrowed-start.ensures.low c.narrowed-start.ensures.high (omega arith) in
    rw (c.count_each-else-indices-start-ge-COMPARED.ensures, numbers_by-between value c.args.indices.now start end) part
