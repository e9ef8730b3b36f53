use Rattle.std.proofs.Common.{ℕ, List, ◌++◌, Some, None, refl, ap, ◌∙◌}
use Rattle.std.specs.Prelude.{Option}
use Rattle.std.specs.Io.KnownBytes.{Keeps, Appends}
use Rattle.std.proofs.KnownBytes.{Keeps-refl, Keeps-trans}
use Rattle.flcol_engine.proofs.io.WriteEndSink.write.Goals as goal

-- a write behind those that were interrupted
kept_grows : (a b c : Option (List ℕ)) (bs : List ℕ) → Keeps a b → Appends b c bs → Appends a c bs
kept_grows None b c bs p q = tt
kept_grows (Some x) None c bs p q = absurd p
kept_grows (Some x) (Some y) None bs p q = absurd q
kept_grows (Some x) (Some y) (Some z) bs p q = q ∙ ap (λ l. l ++ bs) p

pub returns-in-Ok-clause-bound : goal.returns-in-Ok-clause-bound
returns-in-Ok-clause-bound g c = c.in-Ok.ensures.bound

pub returns-in-Ok-clause-ok : goal.returns-in-Ok-clause-ok
returns-in-Ok-clause-ok g c = kept_grows _ _ _ _ c.loop.invariant.kept c.in-Ok.ensures.bytes

pub returns-in-Ok-clause-err : goal.returns-in-Ok-clause-err
returns-in-Ok-clause-err g c = tt

pub returns-in-Ok-clause-unflushed : goal.returns-in-Ok-clause-unflushed
returns-in-Ok-clause-unflushed g c = λ _. c.loop.invariant.unflushed

pub returns-in-Ok-clause-mark : goal.returns-in-Ok-clause-mark
returns-in-Ok-clause-mark g c = c.loop.invariant.mark

pub loop-preserved : goal.loop-preserved
loop-preserved g c = record {
  kept = Keeps-trans _ _ _ c.loop.invariant.kept c.in-Err.ensures.bytes;
  mark = c.loop.invariant.mark;
  unflushed = c.loop.invariant.unflushed;
}

pub returns-clause-bound : goal.returns-clause-bound
returns-clause-bound g c = tt

pub returns-clause-some : goal.returns-clause-some
returns-clause-some g c = tt

pub returns-clause-ok : goal.returns-clause-ok
returns-clause-ok g c = tt

pub returns-clause-mark : goal.returns-clause-mark
returns-clause-mark g c = refl

pub loop-init : goal.loop-init
loop-init g c = record { kept = Keeps-refl _; mark = refl; unflushed = refl }
