use Rattle.std.proofs.Common.{ℕ, ◌+◌, List, ◌++◌, map, drop, ap, sym, ◌∙◌, Ok}
use Rattle.std.proofs.lemmas.List.{drop_all, append-nil}
use Rattle.fl_metadata.specs.WrittenText.{message_text, seen_slot}
use Rattle.fl_metadata.proofs.WrittenSlots.{next_slot}
use Rattle.fl_metadata.proofs.writing.write.Goals as goal

pub loop-slot-preserved : goal.loop-slot-preserved
loop-slot-preserved c =
    ap (λ (out : List ℕ). out ++ message_text (map seen_slot (drop (c.loop-slot.slot-index + 1) c.args.slots.now))) c.in_ok-push_slot.ensures
    ∙ next_slot c.args.slots.now c.loop-slot.slot-index _ c.loop-slot.out.items c.loop-slot-test.true
    ∙ c.loop-slot.invariant

pub returns : goal.returns
unfolding message_text
returns c =
    let none = drop_all c.loop-slot.slot-index c.args.slots.now c.loop-slot-test.false in
    ap Ok (sym c.loop-slot.invariant ∙ rw none (append-nil c.loop-slot.out.items))
