use Rattle.std.proofs.Common.{◌<◌, ◌%◌, ◌/◌, length, arith, refl}
use Rattle.std.proofs.lemmas.List.{get_or_read}
use Rattle.fl_types.proofs.BitLists.{bit_in_new_word, bit_in_last_word, last_bit_cleared, no_bit}
use Rattle.fl_types.proofs.bits.push_bit.Goals as goal

pub returns-in_ok-push-in-0-clause-bits : goal.returns-in_ok-push-in-0-clause-bits
returns-in_ok-push-in-0-clause-bits c = rw c.in_ok-push-in-0.ensures.items (bit_in_new_word _ _ c.args.len c.args.bit c.requires c.in-0.is c.with_bit.ensures.bit)

pub returns-in_default-clause-bits : goal.returns-in_default-clause-bits
returns-in_default-clause-bits c =
    let words = c.args.words.now.items in
    let k = c.args.len / 64 in
    let within : k < length words = omega arith in
    bit_in_last_word words c.args.len (c.args.len % 64) c.args.bit _ _ c.requires refl (omega arith) (get_or_read words k _ within c.index-word.ensures 0) c.with_bit-in_default.ensures.bit c.with_bit-in_default.ensures.others

pub with_bit-requires-clause-clear : goal.with_bit-requires-clause-clear
with_bit-requires-clause-clear c = no_bit 0

pub with_bit-requires-in_default-clause-clear : goal.with_bit-requires-in_default-clause-clear
with_bit-requires-in_default-clause-clear c = last_bit_cleared _ c.args.len (c.args.len % 64) refl
