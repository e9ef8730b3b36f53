-- The command that words give, and how its run ends.
use Rattle.std.specs.Prelude.{◌≡◌, ◌↔◌, ℕ, List, [], ◌∷◌, ◌++◌, map, Bool, false, Option, Some, None, if◌then◌else◌, bytes_eq, codes, option_map, Result, Ok, Err, IfSome, IsErrOf, OnOk, IsTrue, true, ◌⊎◌}
use Rattle.fl_ops.specs.Operations.{step_of}
use Rattle.flcol_engine.specs.declared.commands.Command.{Command}
use Rattle.flcol_engine.specs.declared.commands.Command.TheVariants as commands
use Rattle.flcol_engine.specs.declared.commands.Encode.{Encode}
use Rattle.flcol_engine.specs.declared.commands.Pack.{Pack}
use Rattle.flcol_engine.specs.declared.commands.Run.{Run}
use Rattle.flcol_engine.specs.declared.fault.Fault.{Fault}
use Rattle.flcol_engine.specs.declared.fault.Fault.TheVariants as faults
use Rattle.flcol_engine.specs.Ends.{AppendsUnless}
use Rattle.flcol_engine.specs.Faults.{fault_line, out_of_memory}
use Rattle.flcol_engine.specs.Outputs.{IsEncodeOutput, IsOutcomeOf, IsRunOutput}
use Rattle.flcol_engine.specs.Engine.{IsPackOutcome, ReadsAll, IsSilent}
use Rattle.flcol_engine.specs.Words.{RunParts, both, column_type_in_word, encoding_in_word, run_in_words, width_in_word}

-- ---- commands
-- a command: packing a text column at a width, encoding one, or operations on the column of a container and a query
pub data CommandParts : Type 0 where
  PackParts : Pack → CommandParts
  EncodeParts : Encode → CommandParts
  OfRun : RunParts → CommandParts

-- a run, as contracts see its parts
abbrev pub parts_of_run : Run → RunParts
parts_of_run run = record { operations = map step_of run.ops.items; query = run.query }

-- a command, as contracts see its parts
abbrev pub parts_of_command : Command → CommandParts
parts_of_command (commands.Pack pack) = PackParts pack
parts_of_command (commands.Encode encode) = EncodeParts encode
parts_of_command (commands.Run run) = OfRun (parts_of_run run)

-- what the words of `pack` say: a type and a width
abbrev pub pack_in_words : List ℕ → List ℕ → Option Pack
pack_in_words column_type width = both (λ t w. record { ptype = t.0; nullability = t.1; width = w }) (column_type_in_word column_type) (width_in_word width)

-- what the words of `encode` say: a type and an encoding
abbrev pub encode_in_words : List ℕ → List ℕ → Option Encode
encode_in_words column_type encoding = both (λ t e. record { ptype = t.0; nullability = t.1; encoding = e }) (column_type_in_word column_type) (encoding_in_word encoding)

-- the command that a name and two words give: `pack` or `encode`
abbrev pub column_command : List ℕ → List ℕ → List ℕ → Option CommandParts
column_command name column_type last =
    if bytes_eq name (codes "pack") then option_map PackParts (pack_in_words column_type last) else
    if bytes_eq name (codes "encode") then option_map EncodeParts (encode_in_words column_type last) else None

-- the command that three words give
abbrev pub column_command_of : List (List ℕ) → Option CommandParts
column_command_of (name ∷ column_type ∷ last ∷ []) = column_command name column_type last
column_command_of other = None

-- the words begin with `run`
abbrev pub is_run_line : List (List ℕ) → Bool
is_run_line [] = false
is_run_line (name ∷ words) = bytes_eq name (codes "run")

-- the command that words give
abbrev pub command_of : List (List ℕ) → Option CommandParts
command_of [] = None
command_of (name ∷ words) = if bytes_eq name (codes "run") then option_map OfRun (run_in_words words) else column_command_of (name ∷ words)

-- the line that says how the program is called
abbrev pub usage_line : List ℕ
usage_line = codes "usage: flcol pack TYPE WIDTH | encode TYPE ENCODING | run OP.. QUERY" ++ 10 ∷ []

-- a run's exit status
abbrev pub status_of : Result (Unit {0}) Fault → ℕ
status_of (Ok _) = 0
status_of (Err e) = 1

-- what a run says of itself
abbrev pub report_of : Result (Unit {0}) Fault → List ℕ
report_of (Ok _) = []
report_of (Err e) = fault_line e

-- a call of which nothing is left to do has said this line and answers this status
abbrev pub HasSaid : ℕ → List ℕ → ℕ → Bool → Option (List ℕ) → Option (List ℕ) → Type 0
HasSaid wanted line status failed old new = (status ≡ wanted) × AppendsUnless failed old new line

-- words that give no command are answered by the usage line and status 2; those of `run`, whose operations take memory, may also find that it ran out
abbrev pub IsUsage : List (List ℕ) → ℕ → Bool → Option (List ℕ) → Option (List ℕ) → Type 0
IsUsage words status failed old new = HasSaid 2 usage_line status failed old new ⊎ (IsTrue (is_run_line words) × HasSaid 1 (fault_line out_of_memory) status failed old new)

-- how a command that reads this text has ended
abbrev pub IsCommandOutcome : CommandParts → List ℕ → Result (Unit {0}) Fault → Option (List ℕ) → Option (List ℕ) → Type 0
IsCommandOutcome (PackParts pack) text outcome old new = IsPackOutcome outcome pack text old new
IsCommandOutcome (EncodeParts encode) text outcome old new = IsOutcomeOf (IsEncodeOutput encode text) outcome old new
IsCommandOutcome (OfRun run) text outcome old new = IsOutcomeOf (IsRunOutput run text) outcome old new

-- a run of a command ends with this outcome: what it read, what it wrote, and that it names a fault of an end exactly where that end failed
pub record IsRun (command : CommandParts) (outcome : Result (Unit {0}) Fault) (input left : Option (List ℕ)) (source_failed : Bool) (old new : Option (List ℕ)) (sink_failed sink_flushed : Bool) : Type 0 where
  pub answer : IfSome input (λ text. IsCommandOutcome command text outcome old new)
  pub whole : ReadsAll outcome left
  pub silent : IsSilent outcome old new
  pub flushed : OnOk outcome (sink_flushed ≡ true)
  pub read_fault : IsErrOf outcome faults.ReadFault ↔ IsTrue source_failed
  pub write_fault : IsErrOf outcome faults.WriteFault ↔ IsTrue sink_failed
