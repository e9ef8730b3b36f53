-- What the contracts of a source and a sink say of their bytes and of their marks.
use Rattle.std.specs.Prelude.{◌≡◌, ◌≢◌, ℕ, List, take, Bool, true, ◌||◌, is_err, Result, Ok, Err, Option, MatchBool}
use Rattle.std.specs.Io.KnownBytes.{Appends}

-- a call sets the mark exactly where it answers a fault
abbrev pub Marks : {T E : Type 0} → Bool → Bool → Result T E → Type 0
Marks old new result = new ≡ (is_err result || old)

-- a call sets the mark exactly where it answers this fault
abbrev pub MarksWhere : {T E : Type 0} → E → Bool → Bool → Result T E → Type 0
MarksWhere fault old new (Ok x) = new ≡ old
MarksWhere fault old new (Err e) = (e ≡ fault → new ≡ true) × (e ≢ fault → new ≡ old)

-- known bytes grow by some beginning of bs
abbrev pub AppendsFront : Option (List ℕ) → Option (List ℕ) → List ℕ → Type 0
AppendsFront old new bs = (k : ℕ) × Appends old new (take k bs)

-- known bytes grow by bs, or, where the sink has failed, by some beginning of bs
abbrev pub AppendsUnless : Bool → Option (List ℕ) → Option (List ℕ) → List ℕ → Type 0
AppendsUnless failed old new bs = MatchBool failed (AppendsFront old new bs) (Appends old new bs)
