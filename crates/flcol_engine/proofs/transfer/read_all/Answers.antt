-- The clauses of each refusal are answered by its fault.
use Rattle.std.proofs.Common.{◌≡◌, Bool, true, length, Ok, Err, IsErrAnd, IfOk, IfErr, arith, refl, sym, ◌∙◌, inl, inr}
use Rattle.std.specs.Prelude.{Result}
use Rattle.std.proofs.lemmas.List.{take_at, append-nil}
use Rattle.std.proofs.KnownBytes.{Consumes-nil, Consumes-trans, Consumes-whole}
use Rattle.flcol_engine.specs.declared.fault.Fault.{Fault}
use Rattle.flcol_engine.specs.declared.fault.Fault.TheVariants.{ReadFault}
use Rattle.flcol_engine.specs.Faults.{out_of_memory}
use Rattle.flcol_engine.specs.Ends.{MarksWhere}
use Rattle.flcol_engine.proofs.transfer.read_all.Goals as goal

no_value : {X E : Type 0} (P : X → Type 0) (Q : E → Type 0) (r : Result X E) → IsErrAnd r Q → IfOk r P
no_value P Q (Ok x) h = absurd h
no_value P Q (Err e) h = tt

no_memory_marks : {X : Type 0} (r : Result X Fault) (old new : Bool) → IsErrAnd r (λ e. e ≡ out_of_memory) → new ≡ old → MarksWhere ReadFault old new r
no_memory_marks (Ok x) old new h same = absurd h
no_memory_marks (Err e) old new h same = (λ is. absurd cc, λ _. same)

read_fault_marks : {X : Type 0} (r : Result X Fault) (old new : Bool) → IsErrAnd r (λ e. e ≡ ReadFault) → new ≡ true → MarksWhere ReadFault old new r
read_fault_marks (Ok x) old new h marked = absurd h
read_fault_marks (Err e) old new h marked = (λ _. marked, λ is_not. absurd (is_not h))

caused : {X E : Type 0} (P Q : E → Type 0) (r : Result X E) → IsErrAnd r Q → ((e : E) → Q e → P e) → IfErr r P
caused P Q (Ok x) h f = absurd h
caused P Q (Err e) h f = f e h

pub returns-in_err-chunk-clause-bytes : goal.returns-in_err-chunk-clause-bytes
returns-in_err-chunk-clause-bytes g c = no_value _ _ c.from_residual.result c.from_residual.ensures.1

pub returns-in_err-chunk-clause-end : goal.returns-in_err-chunk-clause-end
returns-in_err-chunk-clause-end g c = no_value _ _ c.from_residual.result c.from_residual.ensures.1

pub returns-in_err-chunk-clause-mark : goal.returns-in_err-chunk-clause-mark
returns-in_err-chunk-clause-mark g c = no_memory_marks c.from_residual.result _ _ c.from_residual.ensures.1 refl

pub returns-in_err-chunk-clause-causes : goal.returns-in_err-chunk-clause-causes
returns-in_err-chunk-clause-causes g c = caused _ _ c.from_residual.result c.from_residual.ensures.1 (λ e is. inr is)

pub returns-in_err-n-clause-bytes : goal.returns-in_err-n-clause-bytes
returns-in_err-n-clause-bytes g c = no_value _ _ c.from_residual-in_err-n.result c.from_residual-in_err-n.ensures.1

pub returns-in_err-n-clause-end : goal.returns-in_err-n-clause-end
returns-in_err-n-clause-end g c = no_value _ _ c.from_residual-in_err-n.result c.from_residual-in_err-n.ensures.1

pub returns-in_err-n-clause-mark : goal.returns-in_err-n-clause-mark
returns-in_err-n-clause-mark g c = read_fault_marks c.from_residual-in_err-n.result _ _ c.from_residual-in_err-n.ensures.1 c.in_err-n.ensures.mark

pub returns-in_err-n-clause-causes : goal.returns-in_err-n-clause-causes
returns-in_err-n-clause-causes g c = caused _ _ c.from_residual-in_err-n.result c.from_residual-in_err-n.ensures.1 (λ e is. inl is)

pub returns-then-n-eq0-clause-mark : goal.returns-then-n-eq0-clause-mark
returns-then-n-eq0-clause-mark g c = c.in_ok-n.ensures.mark ∙ c.loop-all.invariant.mark

pub returns-then-n-eq0-clause-end : goal.returns-then-n-eq0-clause-end
returns-then-n-eq0-clause-end g c = c.in_ok-n.ensures.bytes.1 c.if-n-eq0.true (omega arith)

pub returns-then-n-eq0-clause-bytes : goal.returns-then-n-eq0-clause-bytes
returns-then-n-eq0-clause-bytes g c =
    let taken = Consumes-trans _ _ _ _ _ c.loop-all.invariant.taken c.in_ok-n.ensures.bytes.0 in
    Consumes-whole _ _ _ (λ input. c.loop-all.all.items ≡ input) taken (c.in_ok-n.ensures.bytes.1 c.if-n-eq0.true (omega arith)) (rw c.if-n-eq0.true (sym (append-nil c.loop-all.all.items)))

pub loop-all-preserved : goal.loop-all-preserved
loop-all-preserved g c =
    let whole : length c.read.new.buf ≡ c.loop-all.chunk.len = omega arith in
    record {
      taken = rw (c.in_ok-extend_from_slice.ensures.items, c.deref.ensures.value, take_at) (Consumes-trans _ _ _ _ _ c.loop-all.invariant.taken c.in_ok-n.ensures.bytes.0);
      mark = c.in_ok-n.ensures.mark ∙ c.loop-all.invariant.mark;
      room = c.loop-all.invariant.room;
    }

pub returns-in_err-extend_from_slice-clause-bytes : goal.returns-in_err-extend_from_slice-clause-bytes
returns-in_err-extend_from_slice-clause-bytes g c = no_value _ _ c.from_residual-in_err-extend_from_slice.result c.from_residual-in_err-extend_from_slice.ensures.1

pub returns-in_err-extend_from_slice-clause-end : goal.returns-in_err-extend_from_slice-clause-end
returns-in_err-extend_from_slice-clause-end g c = no_value _ _ c.from_residual-in_err-extend_from_slice.result c.from_residual-in_err-extend_from_slice.ensures.1

pub returns-in_err-extend_from_slice-clause-mark : goal.returns-in_err-extend_from_slice-clause-mark
returns-in_err-extend_from_slice-clause-mark g c = no_memory_marks c.from_residual-in_err-extend_from_slice.result _ _ c.from_residual-in_err-extend_from_slice.ensures.1 (c.in_ok-n.ensures.mark ∙ c.loop-all.invariant.mark)

pub returns-in_err-extend_from_slice-clause-causes : goal.returns-in_err-extend_from_slice-clause-causes
returns-in_err-extend_from_slice-clause-causes g c = caused _ _ c.from_residual-in_err-extend_from_slice.result c.from_residual-in_err-extend_from_slice.ensures.1 (λ e is. inr is)

pub loop-all-init : goal.loop-all-init
loop-all-init g c = record { taken = rw c.new-all.ensures.items (Consumes-nil _); mark = refl; room = omega (arith, c.in_ok-chunk.ensures) }
