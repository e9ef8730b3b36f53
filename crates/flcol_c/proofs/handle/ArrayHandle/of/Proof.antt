-- `of` keeps the pointer alone, and what was owned there is owned through the handle.
use Rattle.std.proofs.Common.{◌≡◌, List, [], ◌∷◌, ◌++◌, refl}
use mir.Val.{Val}
use base.Logic.{SProp, emp}
use base.Fml.{ftrue, fsep}
use prog.Wp.{WpFn}
use contract.Monad.{fact, fact_i}
use contract.Running.{tables}
use types.Kit.{‵, raw, prop, ◌⊛◌, ◌$◌, ◌∵◌, !, qed, by, move, keep, split, fsplit, fjoin, regoal, use0}
use types.Part.{agg, sub, whole}
use types.Run.{stop, fld, of_opd, and_then, no_more, returns, enter}
use types.ByLocal.{alloc_all, pass_all, free_all, look_at, get, get_in, sets}
use denote.Exit.{yes}
use denote.RattleType.{RattleType}
use denote.Signature.{plain}
use denote.Steps.{nothing}
use denote.Triple.Walked.{Stays, stay_dropped, walk_of}
use Rattle.std.proofs.alloc.Calls.{Goes-blank}
use Rattle.std.proofs.raw_atomic.Walks.{proved_at, leaves}
use Rattle.std.specs.declared.option.Option.{Option}
use Rattle.std.specs.declared.option.Option.TheVariants.{Some}
use Rattle.std.specs.contracts.alloc.Global as heap
use Rattle.std.proofs.alloc.Global.TheLaws as heap_laws
use Rattle.std.specs.contracts.impls.GlobalAllocator.TheImpl.{ghosts}
use Rattle.fl_array.specs.Trees.{Tree}
use Rattle.fl_array.specs.contracts.array.ArrayRef as array
use Rattle.flcol_c.specs.contracts.unboxed.Unboxed as unboxed
use Rattle.flcol_c.proofs.HandleSteps.{word_val, some_in, handle_in}
use Rattle.flcol_c.proofs.PairSteps.{pair, is_ptr, is_alone, is_pair, apart}
use Rattle.flcol_c.specs.contracts.handle.ArrayHandle.of.{ended, clauses}
use Rattle.flcol_c.specs.contracts.handle.ArrayHandle.of.Key.{name as #self}
use Rattle.flcol_c.proofs.handle.ArrayHandle.of.Statement.{statement}
use Rattle.flcol_c.proofs.handle.ArrayHandle.of.Code as code

pub of_spec : {M : Type 1} → statement M
of_spec 𝓤 𝓛 𝓜 𝓡 wired =
    let H = 𝓛.H in let 𝓣 = tables 𝓤 H 𝓜 𝓡 𝓡.env in let c = clauses 𝓛 𝓜.mem 𝓡.returns in let body = code.function in
    let Z : RattleType = heap.the_row in let LZ = heap_laws.the_row_laws in let Parts : RattleType = unboxed.the_row array.the_row Z ghosts in
    let hs : Stays ended.signature.params ended.kept = (stay_dropped (plain (λ _. Parts)) yes, tt) in
    proved_at 𝓛 ended hs c 𝓜 𝓡 (Goes-blank 𝓛 0 (plain (λ _. Parts)) yes (λ κs x f. tt), tt) #self body (code.unfolded 𝓤 H 𝓜 𝓡 wired) (λ z are.
    let Post : Val → SProp 𝓤 = (walk_of 𝓛 ended hs c).post z in let u : Parts.Denot = z.0.3.0 in let held : Option Tree = Some u.value in
    qed 𝓛 ((‵ ftrue ⊛ ‵ (fsep (Parts.own_val u z.0.4.0) ftrue)) ∷ raw ((c z.0.0 z.0.3).requires z.1) ∷ []) ∵
    split ! $ move ! (1 ∷ []) $ fsplit ! $ apart Z LZ ! u.pointer u.alloc z.0.4.0 (λ h word good.
    -- [the array on the heap; the allocator; ..]
    keep ! (0 ∷ []) $ some_in ! u.alloc u.pointer u.value $ handle_in ! u.pointer held $
    regoal ! (λ (vs : List Val). prop (WpFn 𝓤 H 𝓣.C 𝓣.Λ body (vs ++ []) Post)) word refl $
    enter ! 𝓣.C 𝓣.Λ body (pair u.pointer h ∷ []) Post $ alloc_all ! (λ l. pass_all ! refl (is_pair 𝓛 Z LZ u.pointer h good, tt) $
    sets ! (of_opd ! (get_in ! (fld ! refl (stop !)) (sub ! 0 refl (whole !)))) refl (is_ptr 𝓛 u.pointer) $
    sets ! (of_opd ! (get ! refl)) refl (is_ptr 𝓛 u.pointer) $
    sets ! (agg ! (and_then ! (get ! refl) (no_more !))) refl (is_alone 𝓛 u.pointer) $
    returns ! (look_at ! 0 refl) $ free_all ! refl $
    use0 𝓛 (raw (fact 𝓤 (held ≡ held))) (fact_i 𝓤 _ (emp 𝓤) refl) $ move ! (1 ∷ []) $ nothing ! $ nothing ! $ fjoin ! $ nothing ! $
    by ! (leaves 𝓛 ended hs c z (word_val u.pointer) (record { word = u.pointer; tree = held }) (tt, tt) (tt, tt)))))
