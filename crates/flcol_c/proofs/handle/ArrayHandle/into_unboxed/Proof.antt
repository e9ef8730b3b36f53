-- `into_unboxed` compares the pointer with null, and puts one that is not null beside the allocator.
use Rattle.std.proofs.Common.{◌≡◌, List, [], ◌∷◌, ◌++◌, refl, lit<}
use lib.Dec.{T}
use mir.Val.{Val, vcons, vnil, has_ty, WT}
use base.Logic.{SProp, emp}
use base.Fml.{ftrue, fsep}
use prog.Wp.{WpFn}
use contract.Monad.{fact, fact_i}
use contract.Running.{tables}
use types.Kit.{‵, raw, prop, ◌⊛◌, at_ret, ◌$◌, ◌∵◌, !, qed, by, move, keep, split, fsplit3, fjoin, regoal, use0, use1}
use types.Match.{live}
use types.Part.{agg, sub, whole}
use types.Run.{stop, fld, lit, of_opd, bin, and_then, no_more, first, branches, exec, returns, enter}
use types.ByLocal.{alloc_all, pass_all, free_all, look_at, get, get_in, sets, sets_last, env}
use denote.Exit.{yes}
use denote.Param.{layout}
use denote.RattleType.{RattleType}
use denote.RawPtr.{Ptr, block_ptr, null_ptr, tests_null}
use denote.Signature.{plain, type_at}
use denote.Steps.{nothing}
use denote.Triple.Walked.{Stays, stay_dropped, walk_of, Goes-dropped}
use Rattle.std.proofs.VecSteps.Shapes.{after}
use Rattle.std.proofs.ResultValues.{and_tt}
use Rattle.std.proofs.raw_atomic.Walks.{proved_at, leaves}
use Rattle.std.proofs.option.Made.{Some-of, none_of}
use Rattle.std.specs.declared.option.Option.{Option}
use Rattle.std.specs.declared.option.Option.TheVariants.{None, Some}
use Rattle.std.specs.contracts.alloc.Global as heap
use Rattle.std.proofs.alloc.Global.TheLaws as heap_laws
use Rattle.std.specs.contracts.impls.GlobalAllocator.TheImpl.{ghosts}
use Rattle.fl_array.specs.Trees.{Tree}
use Rattle.fl_array.specs.contracts.array.ArrayRef as array
use Rattle.flcol_c.specs.contracts.handle.ArrayHandle as handle
use Rattle.flcol_c.specs.contracts.unboxed.Unboxed as unboxed
use Rattle.flcol_c.proofs.HandleSteps.{word_val, handle_out, either}
use Rattle.flcol_c.proofs.PairSteps.{pair, is_ptr, is_alone, is_pair, alloc_at, together}
use Rattle.flcol_c.specs.contracts.handle.ArrayHandle.into_unboxed.{ended, clauses}
use Rattle.flcol_c.specs.contracts.handle.ArrayHandle.into_unboxed.Key.{name as #self}
use Rattle.flcol_c.proofs.handle.ArrayHandle.into_unboxed.Statement.{statement}
use Rattle.flcol_c.proofs.handle.ArrayHandle.into_unboxed.Code as code

pub into_unboxed_spec : {M : Type 1} → statement M
into_unboxed_spec 𝓤 𝓛 𝓜 𝓡 wired =
    let H = 𝓛.H in let 𝓣 = tables 𝓤 H 𝓜 𝓡 𝓡.env in let c = clauses 𝓛 𝓜.mem 𝓡.returns in let body = code.function in
    let Handle : RattleType = handle.the_row in let Z : RattleType = heap.the_row in let LZ = heap_laws.the_row_laws in let Parts : RattleType = unboxed.the_row array.the_row Z ghosts in
    let hs : Stays ended.signature.params ended.kept = (stay_dropped (plain (λ _. Handle)) yes, (stay_dropped (plain (λ _. Z)) yes, tt)) in
    proved_at 𝓛 ended hs c 𝓜 𝓡 (Goes-dropped 𝓛 0 (plain (λ _. Handle)) yes (λ κs x f. refl), (Goes-dropped 𝓛 0 (plain (λ _. Z)) yes (λ κs x f. refl), tt)) #self body (code.unfolded 𝓤 H 𝓜 𝓡 wired) (λ z are.
    let Post : Val → SProp 𝓤 = (walk_of 𝓛 ended hs c).post z in let d : Handle.Denot = z.0.3.0 in let a : Z.Denot = z.0.3.1.0 in
    let Out : RattleType = type_at ended.signature.result z.0.0 in let Run : List Val → SProp 𝓤 = λ vs. WpFn 𝓤 H 𝓣.C 𝓣.Λ body vs Post in
    qed 𝓛 ((‵ ftrue ⊛ ‵ (fsep (Handle.own_val d z.0.4.0) (fsep (Z.own_val a z.0.4.1.0) ftrue))) ∷ raw ((c z.0.0 z.0.3).requires z.1) ∷ []) ∵
    split ! $ move ! (1 ∷ []) $ fsplit3 ! $ move ! (1 ∷ []) $ alloc_at Z LZ ! a z.0.4.1.0 (λ h word good. move ! (1 ∷ []) $ handle_out ! d z.0.4.0 (λ at.
    -- [what the handle owns; the allocator; ..]
    keep ! (0 ∷ 1 ∷ []) $ regoal ! (λ (vs : List Val). prop (Run (vs ++ (z.0.4.1.0 ++ [])))) at refl $
    regoal ! (λ (vs : List Val). prop (Run (word_val d.word ∷ (vs ++ [])))) word refl $
    either ! a d.word d.tree
    (λ is none. keep ! [] $ regoal ! (λ (p : Ptr). prop (Run (word_val p ∷ h ∷ []))) is refl $
    enter ! 𝓣.C 𝓣.Λ body (word_val null_ptr ∷ h ∷ []) Post $ alloc_all ! (λ l. pass_all ! refl (is_alone 𝓛 null_ptr, (good, tt)) $
    sets ! (of_opd ! (get_in ! (fld ! refl (stop !)) (sub ! 0 refl (whole !)))) refl (is_ptr 𝓛 null_ptr) $
    sets ! (bin ! (get ! refl) (lit ! tt) tt) refl (tt, tt) $ first ! $ branches ! (get ! refl)
    (λ _. let fits : T (has_ty (layout Out) (live 0 vnil)) × WT (live 0 vnil) = (tt, (record { fits = lit< tt }, tt)) in
    sets_last ! (agg ! (and_then ! (lit ! tt) (no_more !))) refl fits $ exec ! 𝓣.C 𝓣.Λ (env body.locals l) (after 3 body.body) (at_ret (env body.locals l) Post) $
    sets ! (of_opd ! (get ! refl)) refl fits $ returns ! (look_at ! 0 refl) $ free_all ! refl $
    use0 𝓛 (raw (fact 𝓤 (d.tree ≡ None))) (fact_i 𝓤 _ (emp 𝓤) none) $ use0 𝓛 (‵ (Out.own_val None (live 0 vnil ∷ []))) (none_of 𝓛 Parts) $
    nothing ! $ nothing ! $ fjoin ! $ nothing ! $ fjoin ! $ nothing ! $
    by ! (leaves 𝓛 ended hs c z (live 0 vnil) None (tt, (tt, tt)) (tt, (tt, tt))))
    (λ wrong. absurd wrong)))
    (λ b o x is some tests. let p : Ptr = block_ptr b o in let made : Val = pair p h in let typed = is_pair 𝓛 Z LZ p h good in
    let parts : Parts.Denot = record { pointer = p; alloc = a; value = x } in let held : Option Tree = Some x in let v : Val = live 1 (vcons made vnil) in
    let fits : T (has_ty (layout Out) v) × WT v = (and_tt _ typed.0, (record { fits = lit< tt }, (typed.1, tt))) in
    -- [the array on the heap; the allocator]
    together Z ! p a h $ use1 𝓛 (‵ (Out.own_val (Some parts) (v ∷ []))) (Some-of 𝓛 Parts parts made) $
    regoal ! (λ (p : Ptr). prop (Run (word_val p ∷ h ∷ []))) is refl $
    enter ! 𝓣.C 𝓣.Λ body (word_val p ∷ h ∷ []) Post $ alloc_all ! (λ l. pass_all ! refl (is_alone 𝓛 p, (good, tt)) $
    sets ! (of_opd ! (get_in ! (fld ! refl (stop !)) (sub ! 0 refl (whole !)))) refl (is_ptr 𝓛 p) $
    sets ! (bin ! (get ! refl) (lit ! tt) (tests_null p tests)) refl (tt, tt) $ first ! $ branches ! (get ! refl) (λ wrong. absurd wrong)
    (λ _. sets ! (of_opd ! (get ! refl)) refl (is_ptr 𝓛 p) $ sets ! (agg ! (and_then ! (get ! refl) (and_then ! (get ! refl) (no_more !)))) refl typed $
    sets_last ! (agg ! (and_then ! (lit ! tt) (and_then ! (get ! refl) (no_more !)))) refl fits $ exec ! 𝓣.C 𝓣.Λ (env body.locals l) (after 3 body.body) (at_ret (env body.locals l) Post) $
    sets ! (of_opd ! (get ! refl)) refl fits $ returns ! (look_at ! 0 refl) $ free_all ! refl $
    use0 𝓛 (raw (fact 𝓤 (d.tree ≡ held))) (fact_i 𝓤 _ (emp 𝓤) some) $ move ! (1 ∷ []) $
    nothing ! $ nothing ! $ fjoin ! $ nothing ! $ fjoin ! $ nothing ! $
    by ! (leaves 𝓛 ended hs c z v (Some parts) (tt, (tt, tt)) (tt, (tt, tt)))))))))
