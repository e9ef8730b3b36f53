-- Writing a slice piece by piece, and reading to the end.
use Rattle.std.proofs.Common.{ℕ, ◌≡◌, ◌+◌, ◌-◌, ◌≤◌, Bool, true, false, List, Result, Ok, Err, length, take, drop, arith}
use Rattle.std.proofs.lemmas.List.{take_all}
use Rattle.std.specs.Prelude.{OnErr, OnOk, Option}
use Rattle.flcol_engine.specs.declared.io.WriteFault.{WriteFault}
use Rattle.std.proofs.Math.Seq.{take-add}
use Rattle.std.specs.Io.KnownBytes.{Appends}
use Rattle.std.proofs.KnownBytes.{Appends-trans}
use Rattle.flcol_engine.proofs.SliceLemmas.{from_index}
use Rattle.flcol_engine.specs.Ends.{AppendsFront, AppendsUnless, Marks}

-- one more piece
pub piece_added : (a b c : Option (List ℕ)) (bytes : List ℕ) (at n : ℕ) → Appends a b (take at bytes) → Appends b c (take n (take (length bytes - at) (drop at bytes))) → Appends a c (take (at + n) bytes)
piece_added a b c bytes at n before piece = rw (take-add at n bytes) (Appends-trans a b c _ _ before (rw from_index at piece))

-- a fault after the pieces so far
pub front_added : (a b c : Option (List ℕ)) (bytes : List ℕ) (at : ℕ) → Appends a b (take at bytes) → AppendsFront b c (take (length bytes - at) (drop at bytes)) → AppendsFront a c bytes
front_added a b c bytes at before piece = (at + piece.0, piece_added a b c bytes at piece.0 before piece.1)

-- what was written of a line, where the mark says whether the sink has ever failed
pub said_unless : (r : Result (Unit {0}) WriteFault) (before after : Bool) (old new : Option (List ℕ)) (bytes : List ℕ) → OnOk r (Appends old new bytes) → OnErr r (AppendsFront old new bytes) → Marks before after r → AppendsUnless after old new bytes
said_unless (Ok x) before true old new bytes ok err mark = (length bytes, rw (take_all (length bytes) bytes (omega arith)) ok)
said_unless (Ok x) before false old new bytes ok err mark = ok
said_unless (Err e) before true old new bytes ok err mark = err
said_unless (Err e) before false old new bytes ok err mark = cc
