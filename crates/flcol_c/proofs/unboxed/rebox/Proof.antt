-- `rebox` hands on the allocator, the pointer and the memory there.
use Rattle.std.proofs.Common.{◌≡◌, List, [], ◌∷◌, ◌++◌, refl, sym, ap, subst}
use mir.Syntax.{a_type, dcons, dnil}
use mir.MapTy.{inst_fn}
use lib.Dec.{T as Holds}
use mir.Val.{Val, has_ty, WT}
use base.Fml.{ftrue, fsep}
use base.Logic.{SProp, emp, id⊢}
use prog.Wp.{WpFn}
use contract.BorrowLft.{◌⊑◌}
use contract.Monad.{fact, fact_i}
use contract.Running.{tables}
use types.Kit.{‵, raw, prop, ◌⊛◌, some, later, at_ret, ◌$◌, ◌∵◌, !, qed, by, await, pick, split, join, move, keep, drop, fsplit, fjoin, regoal, use0, use1, use2}
use types.Part.{sub, whole}
use types.Run.{stop, fld, of_opd, and_then, no_more, first, blocks, exec, returns, enter}
use types.ByLocal.{alloc_all, pass_all, free_all, look_at, get, get_in, sets, lands_last, env}
use denote.Exit.{no}
use denote.Laws.{shows}
use denote.Param.{bounded, layout, param}
use denote.RattleType.{RattleType}
use denote.RawPtr.{ptr_val}
use denote.Signature.{plain}
use denote.Steps.{nothing, heard, peeks, only}
use denote.Triple.Call.{calls_at_last}
use denote.Triple.Clauses.{Lasts, lasts}
use denote.Triple.Entry.{alive}
use denote.Triple.Spec.{triple_of}
use denote.Triple.Table.{framed}
use denote.Triple.Walked.{Stays, stay_dropped, walk_of}
use Rattle.std.proofs.VecSteps.Shapes.{after}
use Rattle.std.proofs.alloc.Calls.{Goes-blank}
use Rattle.std.proofs.raw_atomic.Walks.{proved_at, leaves}
use Rattle.std.specs.contracts.boxed.Box as boxed
use Rattle.std.specs.contracts.boxed.Box.from_raw as made
use Rattle.std.proofs.boxed.Box.from_raw.Met as makes
use Rattle.flcol_c.specs.contracts.unboxed.Unboxed as unboxed
use Rattle.flcol_c.proofs.PairSteps.{pair, is_ptr, is_pair, pair_word, as_arguments}
use Rattle.flcol_c.specs.contracts.unboxed.rebox.{ended, clauses}
use Rattle.flcol_c.specs.contracts.unboxed.rebox.Key.{name as #self}
use Rattle.flcol_c.proofs.unboxed.rebox.Statement.{statement}
use Rattle.flcol_c.proofs.unboxed.rebox.Code as code

pub rebox_spec : {M : Type 1} → statement M
rebox_spec 𝓤 𝓛 𝓜 𝓡 wired T A LT LA g dA dD metA metD =
    let H = 𝓛.H in let 𝓣 = tables 𝓤 H 𝓜 𝓡 𝓡.env in let E = ended T A g dA dD in let c = clauses T A g dA dD 𝓛 𝓜.mem 𝓡.returns in
    let Whole : RattleType = boxed.the_row (param 0 T) (param 1 A) g in let Parts : RattleType = unboxed.the_row (param 0 T) (param 1 A) g in
    let args = bounded (a_type ∷ a_type ∷ []) (T, (A, tt)) (dcons dA (dcons dD dnil)) in let body = inst_fn args code.function in
    let hs : Stays E.signature.params E.kept = (stay_dropped (plain (λ _. Parts)) no, tt) in
    proved_at 𝓛 E hs c 𝓜 𝓡 (Goes-blank 𝓛 2 (plain (λ _. Parts)) no (λ κs x f. tt), tt) (#self args) body (code.unfolded 𝓤 H 𝓜 𝓡 wired (T, (A, tt)) dA dD) (λ z are.
    let Post : Val → SProp 𝓤 = (walk_of 𝓛 E hs c).post z in let u : Parts.Denot = z.0.3.0 in
    let IsBox : Val → Type 0 = λ v. Holds (has_ty (layout Whole) v) × WT v in let making = made.ended T A g dA dD in
    let callee = triple_of 𝓛 (made.signature T A g dA dD) (made.spec T A g dA dD 𝓛 𝓜.mem 𝓡.returns) in
    let met = makes.met 𝓤 𝓛 𝓜 𝓡 (code.calls-std::boxed::Box::from_raw 𝓡.env wired) T A LT LA g dA dD metA metD in
    let at : Val → callee.Ghost = λ h. ((z.0.0, z.0.1, z.0.2, (u.alloc, (u.pointer, tt)), (h ∷ [], (ptr_val u.pointer ∷ [], tt))), u.value) in
    qed 𝓛 ((raw (alive 𝓛 E.signature z.0.0 z.0.1) ⊛ ‵ (fsep (Parts.own_val u z.0.4.0) ftrue))
    ∷ (raw (fact 𝓤 (z.0.0.0 ⊑ T.lives)) ⊛ (raw (fact 𝓤 (z.0.0.1.0 ⊑ A.lives)) ⊛ raw (emp 𝓤))) ∷ []) ∵
    split ! $ move ! (1 ∷ []) $ fsplit ! $ fsplit ! $ as_arguments A LA ! u.pointer u.alloc z.0.4.0 (λ h word good.
    let fits = is_pair 𝓛 A LA u.pointer h good in
    -- [the arguments; the memory; nothing; the tokens; what the types outlive]
    move ! (4 ∷ []) $ split ! $ move ! (1 ∷ []) $ split ! $ keep ! (0 ∷ 4 ∷ 2 ∷ 6 ∷ 3 ∷ []) $
    join ! $ move ! (1 ∷ 0 ∷ []) $ join ! $ move ! (1 ∷ 2 ∷ []) $ join ! $ use2 𝓛 (raw (callee.pre (at h))) (id⊢ 𝓤 _) $
    regoal ! (λ (vs : List Val). prop (WpFn 𝓤 H 𝓣.C 𝓣.Λ body (vs ++ []) Post)) word refl $
    enter ! 𝓣.C 𝓣.Λ body (pair u.pointer h ∷ []) Post $ alloc_all ! (λ l. pass_all ! refl (fits, tt) $
    sets ! (of_opd ! (get_in ! (fld ! refl (stop !)) (sub ! 0 refl (whole !)))) refl (is_ptr 𝓛 u.pointer) $
    sets ! (of_opd ! (get_in ! (fld ! refl (stop !)) (sub ! 1 refl (whole !)))) refl good $
    first ! $ blocks ! $ sets ! (of_opd ! (get ! refl)) refl good $
    calls_at_last ! (framed 𝓤 H 𝓜 𝓣) callee met (at h) (and_then ! (get ! refl) (and_then ! (get ! refl) (no_more !))) (λ v.
    use1 𝓛 (later (some (λ (b : Whole.Denot). (raw (alive 𝓛 E.signature z.0.0 z.0.1) ⊛ ‵ (Whole.own_val b (v ∷ []))) ⊛
    some (λ (ws : Lasts making z.0.0 (at h).0.3). ‵ (lasts making z.0.0 (at h).0.3 ws) ⊛ (raw (fact 𝓤 (b.value ≡ u.value)) ⊛ raw (fact 𝓤 (b.alloc ≡ u.alloc))))))) (id⊢ 𝓤 _) $
    await ! tt $ pick ! (λ b. split ! $ split ! $ move ! (2 ∷ []) $ pick ! (λ ws. split ! $ drop ! $ split ! $ heard ! (b.value ≡ u.value) (λ same. drop ! $
    -- [the tokens; the box]
    move ! (1 ∷ []) $ peeks ! Whole _ (shows 𝓛 Whole) b (v ∷ []) (λ is.
    let parts = pair_word 𝓛 A LA b.ptr b.alloc (v ∷ []) is.0 in
    let is_box : IsBox v = subst IsBox (sym (ap only parts.1.0)) (is_pair 𝓛 A LA b.ptr parts.0 parts.1.1) in
    lands_last ! refl is_box $ exec ! 𝓣.C 𝓣.Λ (env body.locals l) (after 3 body.body) (at_ret (env body.locals l) Post) $
    sets ! (of_opd ! (get ! refl)) refl is_box $ returns ! (look_at ! 0 refl) $ free_all ! refl $
    use0 𝓛 (raw (fact 𝓤 (b.value ≡ u.value))) (fact_i 𝓤 _ (emp 𝓤) same) $ nothing ! $ nothing ! $ fjoin ! $ move ! (3 ∷ 0 ∷ 2 ∷ 1 ∷ []) $
    by ! (leaves 𝓛 E hs c z v b ((tt, (tt, tt)), tt) (tt, tt))))))))))
