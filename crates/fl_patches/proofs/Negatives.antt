-- Negative items.
use Rattle.std.proofs.Common.{◌≡◌, ℕ, ℤ, pos, ◌<◌, ◌&&◌, Bool, true, false, List, length, map, get_or, None, IsTrue, refl, ap, sym, ◌∙◌, inl, inr}
use Rattle.std.proofs.lemmas.Bool.{cases_Bool}
use Rattle.std.specs.Prelude.{int_lt}
use Rattle.fl_types.specs.declared.validity.Validity.{Validity}
use Rattle.fl_types.specs.Validities.{covers, is_valid_at, items_of}
use Rattle.fl_column.proofs.ItemLaws.{null_item_read, valid_item_read}
use Rattle.fl_patches.specs.Exceptions.{is_negative}

and_both : (a b : Bool) → b ≡ true → (a && b) ≡ a
and_both true b e = e
and_both false b e = refl

and_none : (a b : Bool) → b ≡ false → (a && b) ≡ false
and_none true b e = e
and_none false b e = refl

-- an item is negative where its value is and it is no null
pub negative_item : {X : Type 0} (value : X → ℤ) (v : Validity) (xs : List X) (i : ℕ) (x : X) (below valid : Bool) → IsTrue (covers v (length xs)) → i < length xs → x ≡ get_or xs i x → below ≡ int_lt (value x) (pos 0) → valid ≡ is_valid_at v i
    → (below && valid) ≡ is_negative (get_or (items_of v (map value xs)) i None)
negative_item value v xs i x below valid covered h read low is = elim (cases_Bool (is_valid_at v i)) [
  | inl here ↦ and_both below valid (is ∙ here) ∙ (low ∙ sym (ap is_negative (valid_item_read value v xs i x covered h here read)))
  | inr gone ↦ and_none below valid (is ∙ gone) ∙ sym (ap is_negative (null_item_read value v xs i covered h gone))
]
