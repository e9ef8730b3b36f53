use Rattle.std.proofs.Common.{◌≡◌, false}
use Rattle.std.specs.Io.KnownBytes.{Keeps}
use Rattle.flcol_engine.proofs.io.WriteEndSink.write.Given as goal

-- a write that was interrupted added nothing
abbrev pub invariant-loop : goal.invariant-loop
invariant-loop g l = record {
  kept : Keeps (g.W.Write.contents l.fn.self.inner) (g.W.Write.contents l.self.inner);
  mark : l.self.failed ≡ l.fn.self.failed;
  unflushed : l.self.flushed ≡ false;
}
