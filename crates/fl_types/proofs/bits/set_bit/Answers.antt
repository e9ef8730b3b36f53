use Rattle.std.proofs.Common.{◌<◌, ◌/◌, ◌%◌, length, arith}
use Rattle.std.proofs.lemmas.List.{get_or_read}
use Rattle.fl_types.proofs.BitLists.{bit_cleared}
use Rattle.fl_types.proofs.MovedBits.{put_here, put_others}
use Rattle.fl_types.proofs.bits.set_bit.Goals as goal

pub with_bit-requires-clause-clear : goal.with_bit-requires-clause-clear
with_bit-requires-clause-clear c = bit_cleared _ (c.args.i % 64) (omega arith)

pub returns-clause-here : goal.returns-clause-here
returns-clause-here c = put_here c.args.words.now.items c.args.i _ c.args.bit (omega arith) c.with_bit.ensures.bit

pub returns-clause-others : goal.returns-clause-others
returns-clause-others c j away =
    let within : c.args.i / 64 < length c.args.words.now.items = omega arith in
    put_others c.args.words.now.items c.args.i j _ _ within away (get_or_read c.args.words.now.items (c.args.i / 64) _ within c.index-word.ensures 0) c.with_bit.ensures.others
