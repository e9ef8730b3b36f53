use Rattle.std.proofs.Common.{◌+◌, ◌%◌, ◌<◌, ◌∙◌, ap, get_or, length, arith, length-set}
use Rattle.fl_bitpacking.specs.Blocks.{block_item}
use Rattle.fl_bitpacking.specs.Readings.{bytes_at}
use Rattle.fl_bitpacking.proofs.TakenLaws.{taken_more}
use Rattle.fl_bitpacking.proofs.compute.take.runs.read_run.Goals as goal

pub loop-k-preserved : goal.loop-k-preserved
loop-k-preserved g c =
    let value = g.T.Number.value in
    let ptype = g.T.NativePType.PTYPE in
    let k = c.loop-k.k in
    let run = c.requires.run in
    let run_at = c.args.run.extent in
    let low = c.loop-k.auto.k in
    let more = c.loop-k-test.true in
    let within = run.within in
    let long = c.loop-k.invariant.long in
    let q = (c.args.blocks.offset + get_or c.args.positions.now k 0) % 1024 in
    let is = c.item.ensures.item ∙ (ap (λ b. block_item ptype run_at.width (bytes_at run_at b) q) c.loop-k.invariant.few.bytes ∙ run.each ptype k (omega arith) (omega arith)) in
    let inside : k < length c.loop-k.items = omega arith in
    let few = c.item.ensures.few in
    let so_far = c.loop-k.invariant.few in
    let words = few.words in
    let before = so_far.words in
    record {
      taken = rw c.write_at.ensures (taken_more value ptype c.args.reader.now.bytes c.args.blocks c.args.positions.now k c.loop-k.items c.item.result c.loop-k.invariant.taken inside is);
      long = rw (c.write_at.ensures, length-set) long;
      few = record {
        bytes = few.bytes ∙ so_far.bytes;
        blocks = few.blocks ∙ so_far.blocks;
        words = omega arith;
      };
    }
