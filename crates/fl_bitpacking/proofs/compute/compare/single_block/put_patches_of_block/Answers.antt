use Rattle.std.proofs.Common.{◌+◌, ◌-◌, ◌%◌, ap, arith}
use Rattle.std.specs.Option.{option_copied}
use Rattle.fl_bitpacking.specs.RangeTests.{passes}
use Rattle.fl_bitpacking.proofs.BlockAnswers.{part_put}
use Rattle.fl_bitpacking.proofs.compute.compare.single_block.put_patches_of_block.Goals as goal

pub returns-clause-bits : goal.returns-clause-bits
returns-clause-bits g c i inside at =
    let column = c.args.column.now in
    let from = c.places_from-from.result.0 in
    let low = c.saturating_sub.result in
    let from_is = c.places_from-from.ensures.from in
    let to_is = c.places_from-from.ensures.to in
    let low_is = c.saturating_sub.ensures in
    let near = c.requires.fit.offset in
    let k = i - from in
    part_put (passes c.args.test.range) (option_copied column.patches) c.in-Some.patches.now c.args.bits.now c.put_patches.new.bits from low k i ((column.offset + i) % 1024) (ap option_copied c.in-Some.is) (omega arith) (omega arith) (c.put_patches.ensures.bits k (omega arith))
