-- `is_none` reads the pointer through the `&mut`, and compares it with null.
use Rattle.std.proofs.Common.{◌≡◌, true, false, List, [], ◌∷◌, refl, sym, ap, ◌∙◌, lit<}
use base.Fraction.{full_share}
use base.Fml.{ftrue, flft}
use base.Logic.{SProp}
use mir.Syntax.{named}
use mir.Val.{Val, vbool}
use contract.Running.{tables}
use types.Kit.{Item, ‵, ◌⊛◌, ◌$◌, ◌∵◌, !, qed, move, keep, split, join, group, fsplit3, feq_i, rewrite, suffices, frame, done}
use types.Run.{stop, fld, load, lit, bin, returns, enter, of_opd}
use types.ByLocal.{alloc_all, pass_all, free_all, look_at, get, through, sets}
use types.Part.{whole, sub, look_in}
use denote.Memory.{cell_at}
use denote.RattleType.{RattleType}
use denote.RawPtr.{Ptr, block_ptr, null_ptr, tests_null}
use denote.Ref.{MutRef, mut_vals, mut_Tells}
use denote.Signature.{plain}
use denote.Steps.{nothing, opens, closes}
use denote.Triple.Walked.{says, Stays, stay_ref, walk_of, ends_at, Goes-ref}
use Rattle.std.proofs.raw_atomic.Walks.{proved}
use Rattle.std.specs.Prelude.{is_none}
use Rattle.flcol_c.specs.declared.handle.ArrayHandle.{ArrayHandle}
use Rattle.flcol_c.specs.contracts.handle.ArrayHandle as handle
use Rattle.flcol_c.proofs.HandleSteps.{word_val, handle_in, handle_out, looks_null}
use Rattle.flcol_c.specs.contracts.handle.ArrayHandle.is_none.{ended, clauses}
use Rattle.flcol_c.specs.contracts.handle.ArrayHandle.is_none.Key.{name as #self}
use Rattle.flcol_c.proofs.handle.ArrayHandle.is_none.Statement.{statement}
use Rattle.flcol_c.proofs.handle.ArrayHandle.is_none.Code as code

abbrev Ha : RattleType
Ha = handle.the_row

pub is_none_spec : {M : Type 1} → statement M
is_none_spec 𝓤 𝓛 𝓜 𝓡 wired =
    let H = 𝓛.H in let 𝓣 = tables 𝓤 H 𝓜 𝓡 𝓡.env in let c = clauses 𝓛 𝓜.mem 𝓡.returns in let hs : Stays ended.signature.params ended.kept = (stay_ref (0 ∷ []) tt (plain (λ _. Ha)), tt) in
    proved 𝓛 ended hs c 𝓜 𝓡 (Goes-ref 𝓛 1 0 tt (plain (λ _. Ha)), tt) #self code.function (code.unfolded 𝓤 H 𝓜 𝓡 wired)
    (λ κs. (mut_vals, tt)) (λ κs. (mut_Tells (named 0) κs.0 Ha, tt)) (λ κs qs bounds rs g are.
    let κ = κs.0 in let q = qs.0 in let rb = rs.0.ref_ptr.0 in let ro = rs.0.ref_ptr.1 in let h : ArrayHandle = rs.0.now in let vs = mut_vals rs.0 in
    let y : (walk_of 𝓛 ended hs c).Ghost = ((κs, qs, bounds, rs, (vs, tt)), g) in let Post : Val → SProp 𝓤 = (walk_of 𝓛 ended hs c).post y in
    let Cell : List Val → Item 𝓤 = λ ws. ‵ (cell_at full_share Ha.mir ws rb ro) in
    qed 𝓛 (((‵ (flft κ q) ⊛ ‵ ftrue) ⊛ ‵ ((MutRef (named 0) κ Ha).own_val rs.0 vs) ⊛ ‵ ftrue) ∷ ‵ ftrue ∷ []) ∵
    split ! $ split ! $ move ! (2 ∷ []) $ split ! $ keep ! (0 ∷ 2 ∷ []) $ enter ! 𝓣.C 𝓣.Λ code.function vs Post $ alloc_all ! (λ l. pass_all ! refl ((tt, tt), tt) $
    fsplit3 ! $ move ! (1 ∷ 2 ∷ 3 ∷ []) $ opens ! tt Ha {h = h} rb ro (λ us. move ! (1 ∷ []) $ handle_out ! h us (λ ws. looks_null ! h.word h.tree
    (λ is none. let es : us ≡ word_val null_ptr ∷ [] = ws ∙ ap (λ (p : Ptr). word_val p ∷ []) is in rewrite ! 1 Cell es refl $
    sets ! (of_opd ! (load ! (through ! refl (fld ! refl (stop !))) (look_in ! 1 (sub ! 0 refl (whole !))))) refl (tt, record { fits = lit< tt }) $ sets ! (bin ! (get ! refl) (lit ! tt) tt) refl (tt, tt) $
    rewrite ! 1 Cell (ap (λ (p : Ptr). word_val p ∷ []) (sym is)) refl $ handle_in ! h.word h.tree $ move ! (1 ∷ []) $ closes ! tt Ha h (word_val h.word ∷ []) rb ro $
    returns ! (look_at ! 0 refl) $ free_all ! refl $ move ! (3 ∷ []) $ suffices ! _ (ends_at 𝓛 ended hs c y (vbool true) true (h, tt) (tt, tt)) $ says ! (refl, sym (ap is_none none)) $ group ! 3 $
    nothing ! $ move ! (1 ∷ 0 ∷ []) $ join ! $ nothing ! $ move ! (2 ∷ 0 ∷ []) $ join ! $ frame ! $ frame ! $ feq_i ! (List Val) (vbool true ∷ []) (vbool true ∷ []) refl $ done !)
    (λ b o x is full i. let es : us ≡ word_val (block_ptr b o) ∷ [] = ws ∙ ap (λ (p : Ptr). word_val p ∷ []) is in rewrite ! 1 Cell es refl $
    sets ! (of_opd ! (load ! (through ! refl (fld ! refl (stop !))) (look_in ! 1 (sub ! 0 refl (whole !))))) refl (tt, tt) $ sets ! (bin ! (get ! refl) (lit ! tt) (tests_null (block_ptr b o) i)) refl (tt, tt) $
    rewrite ! 1 Cell (ap (λ (p : Ptr). word_val p ∷ []) (sym is)) refl $ handle_in ! h.word h.tree $ move ! (1 ∷ []) $ closes ! tt Ha h (word_val h.word ∷ []) rb ro $
    returns ! (look_at ! 0 refl) $ free_all ! refl $ move ! (3 ∷ []) $ suffices ! _ (ends_at 𝓛 ended hs c y (vbool false) false (h, tt) (tt, tt)) $ says ! (refl, sym (ap is_none full)) $ group ! 3 $
    nothing ! $ move ! (1 ∷ 0 ∷ []) $ join ! $ nothing ! $ move ! (2 ∷ 0 ∷ []) $ join ! $ frame ! $ frame ! $ feq_i ! (List Val) (vbool false ∷ []) (vbool false ∷ []) refl $ done !)))))
