use Rattle.std.proofs.Common.{arith, ◌∙◌}
use Rattle.fl_bitmaps.proofs.TurnLaws.{answers_turned}
use Rattle.fl_bitmaps.proofs.turning.not.Goals as goal

pub returns-clause-turned : goal.returns-clause-turned
returns-clause-turned c validity =
    let len = c.args.len in
    let long = c.if-bits-bitmap_len.false in
    let room = c.bitmap_len.ensures in
    answers_turned c.args.bits.now c.clear_from.new.bits validity len (λ i h. c.clear_from.ensures.kept i h ∙ c.turn.ensures i (omega arith))
