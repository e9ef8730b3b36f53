-- Answers byte by byte.
use Rattle.std.specs.Prelude.{◌≡◌, ◌<◌, ℕ, Bool, Option, Some, None, List, [], ◌∷◌, slice_index, if◌then◌else◌}
use Rattle.fl_types.specs.Bits.{bit_of_word}
use Rattle.fl_bitmaps.specs.declared.operators.Answers.{Answers}

-- answer j of eight: its bit, where it is known
abbrev pub answer_of : Answers → ℕ → Option Bool
answer_of answers j = if bit_of_word answers.known j then Some (bit_of_word answers.bits j) else None

-- which answers of byte k are known: without a bitmap all
abbrev pub known_at : List ℕ → ℕ → ℕ
known_at [] k = 255
known_at (byte ∷ bytes) k = slice_index (byte ∷ bytes) k

-- the answers of byte k of a bitmap and one of those that are known
abbrev pub answers_at : List ℕ → List ℕ → ℕ → Answers
answers_at bits validity k = record { bits = slice_index bits k; known = known_at validity k }

-- eight answers are those of two times eight, joined
unfoldable pub IsJoin : (Option Bool → Option Bool → Option Bool) → Answers → Answers → Answers → Type 0
IsJoin join left right joined = (j : ℕ) → j < 8 → answer_of joined j ≡ join (answer_of left j) (answer_of right j)
