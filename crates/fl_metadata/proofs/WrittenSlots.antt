-- Slots that are written one after the other.
use Rattle.std.proofs.Common.{◌≡◌, ℕ, ◌+◌, ◌<◌, List, ◌++◌, length, map, drop, get_or, sym, ◌∙◌, append_assoc, refl}
use Rattle.std.specs.Prelude.{option_map}
use Rattle.std.proofs.lemmas.List.{drop_more}
use Rattle.fl_metadata.specs.WireReading.{seen}
use Rattle.fl_metadata.specs.WrittenText.{payload_text_at, message_text, seen_slot}
use Rattle.fl_metadata.specs.declared.writing.Slot as code

pub next_slot : (slots : List code.Slot) (i : ℕ) (d : code.Slot) (out : List ℕ) → i < length slots → (out ++ payload_text_at (get_or slots i d).tag (option_map seen (get_or slots i d).value)) ++ message_text (map seen_slot (drop (i + 1) slots)) ≡ out ++ message_text (map seen_slot (drop i slots))
unfolding message_text
next_slot slots i d out lt =
    append_assoc out (payload_text_at (get_or slots i d).tag (option_map seen (get_or slots i d).value)) (message_text (map seen_slot (drop (i + 1) slots)))
    ∙ sym (rw (drop_more slots i d lt) refl)
