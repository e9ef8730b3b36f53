-- `unbox` keeps the pointer and the allocator, and what the box owned at the pointer goes with them.
use Rattle.std.proofs.Common.{◌≡◌, List, [], ◌∷◌, ◌++◌, refl, sym, ap}
use mir.Syntax.{a_type, dcons, dnil}
use mir.MapTy.{inst_fn}
use mir.Val.{Val}
use base.Fml.{Fml}
use base.Logic.{SProp, emp, id⊢}
use prog.Wp.{WpFn}
use contract.Monad.{fact, fact_i}
use contract.Running.{tables}
use types.Kit.{‵, raw, prop, ◌⊛◌, some, later, ◌$◌, ◌∵◌, !, qed, by, await, pick, split, move, drop, fjoin, rewrite, regoal, use0, use1}
use types.Part.{agg, sub, whole}
use types.Run.{stop, fld, of_opd, and_then, no_more, returns, enter}
use types.ByLocal.{alloc_all, pass_all, free_all, look_at, get, get_in, sets, lands_as}
use denote.Exit.{no}
use denote.Laws.{shows}
use denote.Param.{bounded, param}
use denote.RattleType.{RattleType}
use denote.RawPtr.{Ptr}
use denote.Signature.{plain}
use denote.Steps.{nothing, heard, peeks, only}
use denote.Triple.Call.{calls_at}
use denote.Triple.Clauses.{Lasts, lasts}
use denote.Triple.Entry.{alive}
use denote.Triple.Spec.{triple_of}
use denote.Triple.Table.{framed}
use denote.Triple.Walked.{Stays, stay_dropped, walk_of}
use Rattle.std.proofs.alloc.Calls.{Goes-blank}
use Rattle.std.proofs.raw_atomic.Walks.{proved_at, leaves}
use Rattle.std.specs.Box.Ownership.{box_owns}
use Rattle.std.specs.contracts.boxed.Box as boxed
use Rattle.std.specs.contracts.boxed.Box.into_raw_with_allocator as taken
use Rattle.std.proofs.boxed.Box.into_raw_with_allocator.Met as takes
use Rattle.flcol_c.proofs.PairSteps.{pair, Pair, is_ptr, is_pair, pair_word}
use Rattle.flcol_c.specs.contracts.unboxed.unbox.{ended, clauses}
use Rattle.flcol_c.specs.contracts.unboxed.unbox.Key.{name as #self}
use Rattle.flcol_c.proofs.unboxed.unbox.Statement.{statement}
use Rattle.flcol_c.proofs.unboxed.unbox.Code as code

pub unbox_spec : {M : Type 1} → statement M
unbox_spec 𝓤 𝓛 𝓜 𝓡 wired T A LT LA g dA dT dD metA metT metD =
    let H = 𝓛.H in let 𝓣 = tables 𝓤 H 𝓜 𝓡 𝓡.env in let E = ended T A g dA dT dD in let c = clauses T A g dA dT dD 𝓛 𝓜.mem 𝓡.returns in
    let Whole : RattleType = boxed.the_row (param 0 T) (param 1 A) g in
    let args = bounded (a_type ∷ a_type ∷ []) (T, (A, tt)) (dcons dA (dcons dT (dcons dD dnil))) in let body = inst_fn args code.function in
    let hs : Stays E.signature.params E.kept = (stay_dropped (plain (λ _. Whole)) no, tt) in
    proved_at 𝓛 E hs c 𝓜 𝓡 (Goes-blank 𝓛 2 (plain (λ _. Whole)) no (λ κs x f. tt), tt) (#self args) body (code.unfolded 𝓤 H 𝓜 𝓡 wired (T, (A, tt)) dA dT dD) (λ z are.
    let Post : Val → SProp 𝓤 = (walk_of 𝓛 E hs c).post z in let b : Whole.Denot = z.0.3.0 in
    let taking = taken.ended T A g dA dD dT in
    let callee = triple_of 𝓛 (taken.signature T A g dA dD dT) (taken.spec T A g dA dD dT 𝓛 𝓜.mem 𝓡.returns) in
    let met = takes.met 𝓤 𝓛 𝓜 𝓡 (code.calls-std::boxed::Box::into_raw_with_allocator 𝓡.env wired) T A LT LA g dA dD dT metA metD metT in
    let at : List Val → callee.Ghost = λ vs. ((z.0.0, z.0.1, z.0.2, z.0.3, (vs, tt)), tt) in
    let memory : A.Denot → Ptr → Fml = λ a p. box_owns (g.dealloc_token a) (param 0 T) p b.value in
    let word = pair_word 𝓛 A LA b.ptr b.alloc z.0.4.0 are.0.0 in let fits = is_pair 𝓛 A LA b.ptr word.0 word.1.1 in
    -- the box in the callee's hands, as one machine value
    qed 𝓛 (raw (callee.pre (at z.0.4.0)) ∷ []) ∵ rewrite ! 0 (λ (vs : List Val). raw (callee.pre (at vs))) word.1.0 refl $
    regoal ! (λ (vs : List Val). prop (WpFn 𝓤 H 𝓣.C 𝓣.Λ body (vs ++ []) Post)) word.1.0 refl $
    enter ! 𝓣.C 𝓣.Λ body (pair b.ptr word.0 ∷ []) Post $ alloc_all ! (λ l. pass_all ! refl (fits, tt) $
    sets ! (of_opd ! (get ! refl)) refl fits $
    calls_at ! (framed 𝓤 H 𝓜 𝓣) callee met (at (pair b.ptr word.0 ∷ [])) (and_then ! (get ! refl) (no_more !)) (λ made.
    use1 𝓛 (later (some (λ (r : Ptr × A.Denot). (raw (alive 𝓛 E.signature z.0.0 z.0.1) ⊛ ‵ ((Pair A).own_val (r.0, (r.1, tt)) (made ∷ []))) ⊛
    some (λ (ws : Lasts taking z.0.0 z.0.3). ‵ (lasts taking z.0.0 z.0.3 ws) ⊛ (raw (fact 𝓤 (r.1 ≡ b.alloc)) ⊛ ‵ (memory b.alloc r.0)))))) (id⊢ 𝓤 _) $
    await ! tt $ pick ! (λ r. split ! $ split ! $ move ! (2 ∷ []) $ pick ! (λ ws. split ! $ drop ! $ split ! $ heard ! (r.1 ≡ b.alloc) (λ same.
    rewrite ! 0 (λ (a : A.Denot). ‵ (memory a r.0)) (sym same) refl $
    -- [the memory; the tokens; what the pointer and the allocator own]
    move ! (2 ∷ []) $ peeks ! (Pair A) _ (shows 𝓛 (Pair A)) (r.0, (r.1, tt)) (made ∷ []) (λ is.
    let parts = pair_word 𝓛 A LA r.0 r.1 (made ∷ []) is in let good = is_pair 𝓛 A LA r.0 parts.0 parts.1.1 in
    lands_as ! (ap only parts.1.0) refl good $ rewrite ! 0 (λ (vs : List Val). ‵ ((Pair A).own_val (r.0, (r.1, tt)) vs)) parts.1.0 refl $
    sets ! (of_opd ! (get_in ! (fld ! refl (stop !)) (sub ! 0 refl (whole !)))) refl (is_ptr 𝓛 r.0) $
    sets ! (of_opd ! (get_in ! (fld ! refl (stop !)) (sub ! 1 refl (whole !)))) refl parts.1.1 $
    sets ! (of_opd ! (get ! refl)) refl parts.1.1 $
    sets ! (agg ! (and_then ! (get ! refl) (and_then ! (get ! refl) (no_more !)))) refl good $
    returns ! (look_at ! 0 refl) $ free_all ! refl $
    fjoin ! $ use0 𝓛 (raw (fact 𝓤 (b.value ≡ b.value))) (fact_i 𝓤 _ (emp 𝓤) refl) $ nothing ! $ nothing ! $ fjoin ! $ move ! (3 ∷ 0 ∷ 2 ∷ 1 ∷ []) $
    by ! (leaves 𝓛 E hs c z (pair r.0 parts.0) (record { pointer = r.0; alloc = r.1; value = b.value }) ((tt, (tt, tt)), tt) (tt, tt)))))))))
