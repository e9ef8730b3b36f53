use Rattle.std.proofs.Common.{◌<◌, ◌^◌, arith, refl, get_or}
use Rattle.fl_types.specs.Bits.{first_bits}
use Rattle.fl_types.proofs.WordBits.{counted_more, few_ones}
use Rattle.fl_types.proofs.bits.count_ones.Goals as goal

pub loop-word-init : goal.loop-word-init
unfolding first_bits
loop-word-init c = record { counted = omega arith; few = omega arith }

pub loop-word-preserved : goal.loop-word-preserved
loop-word-preserved c =
    let words = c.args.words.now in
    let i = c.loop-word.word-index in
    let small : get_or words i 0 < 2 ^ 64 = omega (arith, c.type_inv.words i) in
    let few = few_ones (get_or words i 0) small in
    record {
      counted = counted_more words i (get_or words i 0) c.loop-word.count refl small c.loop-word.invariant.counted;
      few = omega arith;
    }
