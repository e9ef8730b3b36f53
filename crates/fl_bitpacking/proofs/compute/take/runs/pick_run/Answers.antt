use Rattle.std.proofs.Common.{◌≡◌, ℕ, List, ◌+◌, ◌%◌, ◌<◌, ◌∙◌, length, get_or, ap, sym, arith, length-set}
use Rattle.fl_bitpacking.specs.Blocks.{blocks_of, item_of_blocks, value_at}
use Rattle.fl_bitpacking.proofs.Natives.{value_at_read}
use Rattle.fl_bitpacking.proofs.Readings.{bytes_kept}
use Rattle.fl_bitpacking.proofs.TakenLaws.{taken_more}
use Rattle.fl_bitpacking.proofs.compute.take.runs.pick_run.Goals as goal

pub loop-k-preserved : goal.loop-k-preserved
loop-k-preserved g c =
    let value = g.T.Number.value in
    let ptype = g.T.NativePType.PTYPE in
    let k = c.loop-k.k in
    let run = c.requires.run in
    let q = (c.args.blocks.offset + get_or c.args.positions.now k 0) % 1024 in
    let low = c.loop-k.auto.k in
    let more = c.loop-k-test.true in
    let within = run.within in
    let long = c.loop-k.invariant.long in
    let whole = c.unpack_block.ensures.whole in
    let read : value c.index-scratch-blocks.result ≡ value_at value c.unpack_block.new.items q = sym (value_at_read value c.unpack_block.new.items q c.index-scratch-blocks.result (omega arith) c.index-scratch-blocks.is) in
    let after = bytes_kept c.args.reader.now c.unpack_block.new.self 1 c.unpack_block.ensures.counted in
    let item = get_or c.unpack_block.new.items q c.index-scratch-blocks.result in
    let is = ap value (sym c.index-scratch-blocks.is) ∙ (read ∙ (c.unpack_block.ensures.items q (omega arith) ∙ (run.each ptype k (omega arith) (omega arith) ∙ ap (λ (bytes : List ℕ). item_of_blocks ptype (blocks_of c.args.blocks.widths) bytes (c.args.blocks.offset + get_or c.args.positions.now k 0)) (sym after)))) in
    let inside : k < length c.loop-k.items = omega arith in
    record {
      taken = rw c.write_at.ensures (taken_more value ptype c.unpack_block.new.self.bytes c.args.blocks c.args.positions.now k c.loop-k.items item c.loop-k.invariant.taken inside is);
      long = rw (c.write_at.ensures, length-set) long;
    }
