use Rattle.std.proofs.Common.{refl, arith}
use Rattle.fl_bitpacking.specs.RangeTests.{passes}
use Rattle.fl_ops.proofs.TestedLists.{answered_all, answered_none}
use Rattle.fl_ops.proofs.by_blocks.tests.test_typed.Goals as goal

pub loop-j-init : goal.loop-j-init
loop-j-init g c =
    let empty = c.in_ok-words.ensures.items in
    answered_none (passes c.args.range) c.in_ok-words.words.items c.args.reader.now (rw empty refl)

pub from_words-requires-clause-room : goal.from_words-requires-clause-room
from_words-requires-clause-room g c =
    let long = c.loop-j.invariant.long in
    let past = c.loop-j-test.false in
    let reached = c.loop-j.auto.j-end in
    let blocks = c.blocks-j-end.ensures in
    let offset_is = c.offset-offset.ensures.offset in
    let len_is = c.len-len.ensures in
    omega arith

pub from_words-requires-clause-few : goal.from_words-requires-clause-few
from_words-requires-clause-few g c =
    let few = c.offset-offset.ensures.few in
    let len_is = c.len-len.ensures in
    omega arith

pub returns-clause-answers : goal.returns-clause-answers
returns-clause-answers g c =
    let past = c.loop-j-test.false in
    let reached = c.loop-j.auto.j-end in
    let blocks = c.blocks-j-end.ensures in
    answered_all (passes c.args.range) c.loop-j.words.items c.from_words.result c.loop-j.j c.offset-offset.result c.len-len.result c.args.reader.now (omega arith) c.offset-offset.ensures.offset c.len-len.ensures c.from_words.ensures c.loop-j.invariant
