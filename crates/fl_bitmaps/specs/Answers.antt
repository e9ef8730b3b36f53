-- Answers that are true, false or not known, and SQL's logic of them: a null stands for an answer that is not known.
use Rattle.std.specs.Prelude.{◌≡◌, ◌≤◌, ◌*◌, ◌&&◌, ◌||◌, ℕ, Bool, true, false, not, Option, Some, None, List, length, option_map, if◌then◌else◌}
use Rattle.std.specs.Bool.{beq}
use Rattle.std.specs.Simd.Lanes.{zip2}
use Rattle.fl_column.specs.Bitmaps.{bits_in}
use Rattle.fl_bitmaps.specs.Bitmaps.{items_in}

-- false where either is false; else not known where either is not
abbrev pub and_of : Option Bool → Option Bool → Option Bool
and_of (Some a) (Some b) = Some (a && b)
and_of (Some a) None = if a then None else Some false
and_of None (Some b) = if b then None else Some false
and_of None None = None

-- true where either is true; else not known where either is not
abbrev pub or_of : Option Bool → Option Bool → Option Bool
or_of (Some a) (Some b) = Some (a || b)
or_of (Some a) None = if a then Some true else None
or_of None (Some b) = if b then Some true else None
or_of None None = None

-- whether they differ; not known where either is not
abbrev pub xor_of : Option Bool → Option Bool → Option Bool
xor_of (Some a) (Some b) = Some (not (beq a b))
xor_of (Some a) None = None
xor_of None b = None

-- the other answer; not known where it is not
abbrev pub not_of : Option Bool → Option Bool
not_of a = option_map not a

-- an answer is known and true
abbrev pub is_true : Option Bool → Bool
is_true (Some a) = a
is_true None = false

-- the first n answers of a bitmap of them and one of those that are known
abbrev pub answers_in : ℕ → List ℕ → List ℕ → List (Option Bool)
answers_in n bits validity = items_in (bits_in bits n) validity

-- the answers of two bitmaps are joined in a third, each by the two at its place
abbrev pub AreJoined : (Option Bool → Option Bool → Option Bool) → (List ℕ × List ℕ) → (List ℕ × List ℕ) → (List ℕ × List ℕ) → Type 0
AreJoined join (bits, validity) (other, other_validity) (joined, joined_validity) =
    (n : ℕ) → n ≤ 8 * length bits → answers_in n joined joined_validity ≡ zip2 join (answers_in n bits validity) (answers_in n other other_validity)
