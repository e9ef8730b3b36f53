use Rattle.std.proofs.Common.{◌≡◌, ◌++◌, map, drop}
use Rattle.fl_metadata.specs.WrittenText.{message_text, seen_slot}
use Rattle.fl_metadata.proofs.writing.write.Given as goal

-- what is written so far, and what is left to write
abbrev pub invariant-loop-slot : goal.invariant-loop-slot
invariant-loop-slot l = l.out.items ++ message_text (map seen_slot (drop l.slot-index l.slots)) ≡ message_text (map seen_slot l.slots)
