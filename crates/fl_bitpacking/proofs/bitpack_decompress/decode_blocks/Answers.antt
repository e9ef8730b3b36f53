use Rattle.std.proofs.Common.{◌≡◌, ◌+◌, ◌-◌, ◌∙◌, length, refl, arith, inl, inr}
use Rattle.std.proofs.lemmas.Bool.{cases_lt}
use Rattle.fl_bitpacking.proofs.Readings.{bytes_kept, read_after}
use Rattle.fl_bitpacking.proofs.bitpack_decompress.decode_blocks.Goals as goal

pub loop-j-preserved : goal.loop-j-preserved
loop-j-preserved g c =
    let items = c.loop-j.items.items in
    let j = c.loop-j.j in
    let kept_bytes = bytes_kept c.args.reader.now c.loop-j.reader j c.loop-j.invariant.counted in
    record {
      start = c.in_ok-start.ensures.next;
      long = c.in_ok-start.ensures.long;
      done = λ i h. elim (cases_lt i (length items)) [
        | inl before ↦ c.in_ok-start.ensures.before i before ∙ c.loop-j.invariant.done i before
        | inr after ↦
            let place : length items + (i - length items) ≡ i = omega arith in
            rw (← place) (rw kept_bytes at (c.in_ok-start.ensures.part (i - length items) (rw place h)))
      ];
      counted = read_after c.args.reader.now c.loop-j.reader c.push_block.new.reader j 1 (j + 1) c.loop-j.invariant.counted c.in_ok-start.ensures.counted refl;
    }
