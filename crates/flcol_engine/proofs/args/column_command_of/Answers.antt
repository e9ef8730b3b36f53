use Rattle.std.proofs.Common.{◌≡◌, ◌≢◌, ℕ, List, [], ◌∷◌, map, length, get_or, Option, None, string_bytes, arith, refl}
use Rattle.std.specs.Prelude.{option_map}
use Rattle.flcol_engine.specs.Command.{CommandParts, column_command, column_command_of}
use Rattle.flcol_engine.proofs.args.column_command_of.Goals as goal

-- other than three words give none
other_count : {S : Type 0} (f : S → List ℕ) (words : List S) → length words ≢ 3 → None ≡ column_command_of (map f words)
other_count f [] h = refl
other_count f (x ∷ []) h = refl
other_count f (x ∷ y ∷ []) h = refl
other_count f (x ∷ y ∷ z ∷ []) h = absurd (h refl)
other_count f (x ∷ y ∷ z ∷ w ∷ ws) h = refl

-- what three words give
three : {S : Type 0} {a b c : S} (f : S → List ℕ) (words : List S) → length words ≡ 3 → a ≡ get_or words 0 a → b ≡ get_or words 1 b → c ≡ get_or words 2 c
    → column_command_of (map f words) ≡ column_command (f a) (f b) (f c)
three f [] len p q r = absurd (omega arith)
three f (x ∷ []) len p q r = absurd (omega arith)
three f (x ∷ y ∷ []) len p q r = absurd (omega arith)
three f (x ∷ y ∷ z ∷ []) len p q r = rw (p, q, r) refl
three f (x ∷ y ∷ z ∷ w ∷ ws) len p q r = absurd (omega arith)

pub returns-in_default : goal.returns-in_default
returns-in_default c = other_count _ c.args.words.now (λ e. grind arith)

pub returns : goal.returns
returns c =
    let given = three string_bytes c.args.words.now (omega arith) c.name-item.is c.column-item.is c.last-item.is in
    rw (given, ← c.as_bytes.ensures.value, ← c.as_bytes-2.ensures.value, ← c.as_bytes-3.ensures.value) c.column_command.ensures
