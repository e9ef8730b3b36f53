use Rattle.std.proofs.Common.{arith}
use Rattle.fl_column.proofs.BitmapLaws.{no_bit_behind}
use Rattle.fl_bitmaps.proofs.TurnLaws.{clear_above, kept_below}
use Rattle.fl_bitmaps.proofs.turning.clear_from.Goals as goal

pub returns-then-len-ne0-clause-kept : goal.returns-then-len-ne0-clause-kept
returns-then-len-ne0-clause-kept c i h = kept_below c.args.bits.now c.args.len i c.requires (omega (arith, c.if-len-ne0.true)) h

pub returns-then-len-ne0-clause-clear : goal.returns-then-len-ne0-clause-clear
returns-then-len-ne0-clause-clear c i h = clear_above c.args.bits.now c.args.len i c.requires (omega (arith, c.if-len-ne0.true)) h

pub returns-else-len-ne0-clause-clear : goal.returns-else-len-ne0-clause-clear
returns-else-len-ne0-clause-clear c i h = no_bit_behind c.args.bits.now i (omega (arith, c.requires, c.if-len-ne0.false, h))
