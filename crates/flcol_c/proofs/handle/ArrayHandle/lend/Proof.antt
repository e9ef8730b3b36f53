-- `lend` lends the array, and the handle follows it.
use Rattle.std.proofs.Common.{◌≡◌, ℕ, List, [], ◌∷◌, refl, sym, ap, ◌∙◌, MutBor}
use seplogic.Ra.Ura.{Ura}
use base.Fraction.{full_share}
use base.Fml.{GName, Fml, ftrue, fsep, flft}
use base.Logic.{SProp, ent, sep, id⊢}
use mir.Syntax.{named}
use mir.Raw.{raw as bare}
use mir.Val.{Val, vptr}
use contract.Monad.{fact}
use contract.Running.{tables}
use types.Logic.{Logic, sem}
use types.Kit.{‵, raw, ◌⊛◌, some, later, at_ret, ◌$◌, ◌∵◌, !, qed, move, keep, drop, split, split3, join, group, fsplit, fsplit3, fjoin, fpack, pick, await, rewrite, suffices, frame, done, use1}
use types.Run.{stop, fld, load, of_opd, first, blocks, exec, returns, enter, addr}
use types.ByLocal.{alloc_all, pass_all, free_all, look_at, get, through, sets, sets_last, env}
use types.Part.{whole, sub, look_in}
use denote.Exit.{no}
use denote.Follow.{follows, Part, lends_Part}
use denote.Memory.{cell_at, lone, mem, part_at, part_of}
use denote.RattleType.{RattleType, owns}
use denote.RawPtr.{Ptr, block_ptr}
use denote.Ref.{MutRef, mut_vals, mut_Tells}
use denote.Signature.{plain, mut_ref_to}
use denote.Steps.{nothing, opens, heard}
use denote.Triple.Walked.{says, Stays, stay_dropped, walk_of, ends_at, Goes-spent_ref}
use Rattle.std.proofs.VecSteps.Shapes.{after}
use Rattle.std.proofs.raw_atomic.Walks.{proved}
use Rattle.std.specs.declared.option.Option.TheVariants.{Some}
use Rattle.std.specs.declared.alloc.Global.{Global}
use Rattle.std.specs.contracts.impls.GlobalAllocator.TheImpl.{ghosts}
use Rattle.std.specs.Prelude.{IsSome}
use Rattle.fl_array.specs.Trees.{Tree}
use Rattle.fl_array.specs.contracts.array.ArrayRef as array
use Rattle.flcol_c.specs.declared.handle.ArrayHandle.{ArrayHandle}
use Rattle.flcol_c.specs.contracts.handle.ArrayHandle as handle
use Rattle.flcol_c.specs.Lending.{with_array}
use Rattle.flcol_c.proofs.HandleSteps.{word_val, some_in, handle_in, handle_out, held_out}
use Rattle.flcol_c.specs.contracts.handle.ArrayHandle.lend.{ended, clauses}
use Rattle.flcol_c.specs.contracts.handle.ArrayHandle.lend.Key.{name as #self}
use Rattle.flcol_c.proofs.handle.ArrayHandle.lend.Statement.{statement}
use Rattle.flcol_c.proofs.handle.ArrayHandle.lend.Code as code

abbrev Ha : RattleType
Ha = handle.the_row

abbrev R : RattleType
R = array.the_row

-- all of the handle but the array
abbrev Rest : Global → ℕ → ℕ → ℕ → ℕ → Fml
Rest a b o rb ro = fsep (ghosts.dealloc_token a (bare (lone R.mir)) (block_ptr b o)) (cell_at full_share Ha.mir (word_val (block_ptr b o) ∷ []) rb ro)

module _ {M : Type 1} {𝓤 : Ura M} (𝓛 : Logic 𝓤) (a : Global) (b o rb ro : ℕ) (h : ArrayHandle) where
  back : h.word ≡ block_ptr b o → (w : Tree) → ent 𝓤 (sep 𝓤 (sem 𝓛 ((mem R).own_at w b o)) (sem 𝓛 (Rest a b o rb ro))) (sem 𝓛 ((mem Ha).own_at (with_array h w) rb ro))
  unfolding part_of
  back e w =
      qed 𝓛 (‵ (part_at R full_share w b o) ∷ ‵ (Rest a b o rb ro) ∷ []) ∵ move ! (1 ∷ []) $ fsplit ! $ move ! (2 ∷ 0 ∷ []) $ fjoin ! $
      some_in ! a (block_ptr b o) w $ handle_in ! (block_ptr b o) (Some w) $
      rewrite ! 0 (λ (p : Ptr). ‵ (Ha.own_val (record { word = p; tree = Some w }) (word_val (block_ptr b o) ∷ []))) (sym e) refl $ move ! (1 ∷ 0 ∷ []) $ fjoin ! $
      fpack ! (List Val) (λ us. fsep (cell_at full_share Ha.mir us rb ro) (Ha.own_val (with_array h w) us)) (word_val (block_ptr b o) ∷ []) $ done !

pub lend_spec : {M : Type 1} → statement M
lend_spec 𝓤 𝓛 𝓜 𝓡 wired =
    let H = 𝓛.H in let 𝓣 = tables 𝓤 H 𝓜 𝓡 𝓡.env in let c = clauses 𝓛 𝓜.mem 𝓡.returns in let hs : Stays ended.signature.params ended.kept = (stay_dropped (mut_ref_to (0 ∷ []) tt (plain (λ _. Ha))) no, tt) in
    proved 𝓛 ended hs c 𝓜 𝓡 (Goes-spent_ref 𝓛 1 (0 ∷ []) tt (plain (λ _. Ha)), tt) #self code.function (code.unfolded 𝓤 H 𝓜 𝓡 wired)
    (λ κs. (mut_vals, tt)) (λ κs. (mut_Tells (named 0) κs.0 Ha, tt)) (λ κs qs bounds rs g are.
    let κ = κs.0 in let q = qs.0 in let rb = rs.0.ref_ptr.0 in let ro = rs.0.ref_ptr.1 in let γ = rs.0.ghost_name in let h : ArrayHandle = rs.0.now in
    let y : (walk_of 𝓛 ended hs c).Ghost = ((κs, qs, bounds, rs, (vptr rb ro ∷ [], tt)), g) in let Post : Val → SProp 𝓤 = (walk_of 𝓛 ended hs c).post y in
    qed 𝓛 (((‵ (flft κ q) ⊛ ‵ ftrue) ⊛ ‵ (owns (MutRef (named 0) κ Ha ∷ []) rs (vptr rb ro ∷ [], tt))) ∷ raw (fact 𝓤 (IsSome h.tree)) ∷ []) ∵ move ! (1 ∷ []) $ heard ! (IsSome h.tree) (λ full. split ! $
    enter ! 𝓣.C 𝓣.Λ code.function (vptr rb ro ∷ []) Post $ alloc_all ! (λ l. pass_all ! refl ((tt, tt), tt) $ let Ev = env (code.function).locals l in
    move ! (1 ∷ []) $ fsplit ! $ fsplit3 ! $ drop ! $ move ! (3 ∷ []) $ split ! $ move ! (2 ∷ 3 ∷ 0 ∷ []) $ opens ! tt Ha {h = h} rb ro (λ vs. move ! (1 ∷ []) $ handle_out ! h vs (λ ws.
    held_out ! h.word h.tree full (λ a b o x e is. let es : vs ≡ word_val (block_ptr b o) ∷ [] = ws ∙ ap (λ (p : Ptr). word_val p ∷ []) e in
    rewrite ! 1 (λ (us : List Val). ‵ (cell_at full_share Ha.mir us rb ro)) es refl $ fsplit ! $
    first ! $ blocks ! $ sets ! (of_opd ! (load ! (through ! refl (fld ! refl (stop !))) (look_in ! 2 (sub ! 0 refl (whole !))))) refl (tt, tt) $ sets ! (of_opd ! (get ! refl)) refl (tt, tt) $
    sets_last ! (addr ! (through ! refl (stop !))) refl (tt, tt) $ exec ! 𝓣.C 𝓣.Λ Ev (after 1 (code.function).body) (at_ret Ev Post) $ sets ! (of_opd ! (get ! refl)) refl (tt, tt) $
    move ! (1 ∷ 2 ∷ []) $ fjoin ! $ move ! (2 ∷ 3 ∷ 4 ∷ 1 ∷ 0 ∷ []) $ group ! 5 $
    use1 𝓛 (later (some (λ (γ' : GName). raw (Part 𝓛 Ha R (with_array h) (named 0) κ q rb ro b o γ (sem 𝓛 (Rest a b o rb ro)) (back 𝓛 a b o rb ro h e) x γ'))))
    (lends_Part 𝓛 Ha R (with_array h) (named 0) κ q rb ro b o γ (sem 𝓛 (Rest a b o rb ro)) (back 𝓛 a b o rb ro h e) (Ha.coded.code h) (Ha.coded.code h) x) $ await ! tt $ pick ! (λ γ'.
    returns ! (look_at ! 0 refl) $ free_all ! refl $ keep ! (0 ∷ []) $ let r : MutBor Tree = record { ref_ptr = (b, o); ghost_name = γ'; now = x } in
    use1 𝓛 (‵ ((MutRef (named 0) κ R).own_val r (vptr b o ∷ [])) ⊛ ‵ (flft κ q) ⊛ ‵ (follows Ha R γ γ' (with_array h))) (id⊢ 𝓤 _) $ split3 ! $
    suffices ! _ (ends_at 𝓛 ended hs c y (vptr b o) r (tt, tt) (tt, tt)) $
    nothing ! $ nothing ! $ fjoin ! $ join ! $ nothing ! $ move ! (2 ∷ 0 ∷ []) $ join ! $ join ! $ frame ! $ says ! (sym is) $ done !)))))))
