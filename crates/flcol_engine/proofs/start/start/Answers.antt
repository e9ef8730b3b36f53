use Rattle.std.proofs.Common.{◌≡◌, ℕ, Bool, false, List, None, Option, Some, Err, map, string_bytes}
use Rattle.std.specs.Prelude.{IfSome, Result}
use Rattle.flcol_engine.specs.declared.fault.Fault.{Fault}
use Rattle.flcol_engine.specs.Command.{CommandParts, IsRun, command_of, report_of, status_of}
use Rattle.flcol_engine.specs.Ends.{AppendsUnless}
use Rattle.flcol_engine.specs.Faults.{fault_line, out_of_memory}
use Rattle.flcol_engine.proofs.RunLemmas.{out_of_memory_run}
use Rattle.flcol_engine.proofs.start.start.Goals as goal

-- memory ran out while the words were read
no_memory : (given : Option CommandParts) (status : ℕ) (failed source_failed sink_failed flushed : Bool) (old new input written : Option (List ℕ)) → status ≡ 1 → AppendsUnless failed old new (fault_line out_of_memory) → source_failed ≡ false → sink_failed ≡ false
    → IfSome given (λ command. (outcome : Result (Unit {0}) Fault) × (status ≡ status_of outcome) × AppendsUnless failed old new (report_of outcome) × IsRun command outcome input input source_failed written written sink_failed flushed)
no_memory None status failed source_failed sink_failed flushed old new input written is said e f = tt
no_memory (Some command) status failed source_failed sink_failed flushed old new input written is said e f = (Err out_of_memory, is, said, out_of_memory_run command input written source_failed sink_failed flushed e f)

pub returns-clause-run : goal.returns-clause-run
returns-clause-run g c = no_memory (command_of (map string_bytes c.args.words.now)) _ _ _ _ _ _ _ _ _ c.refuse-in-Err.ensures.status c.refuse-in-Err.ensures.said c.requires.source_unmarked c.requires.sink_unmarked
