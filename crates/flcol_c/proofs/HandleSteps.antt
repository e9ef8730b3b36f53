-- The machine value of an `ArrayHandle`, and what it owns. Assumes `Logic`.
--     word_val p     the machine value at the pointer p
--     handle_out     a handle by value is its word, and [what it owns].        handle_in     the way back
--     owned a p x    the array x at p, with a's right to free its block.       some_in       it is what a handle owns
--     either         what a handle owns is nothing at null, or [a box] at a pointer that may be compared with null
--     held_out       what a handle with an array owns is [a box].              looks_null    the two cases, and what it owns stays
use Rattle.std.proofs.Common.{◌≡◌, ℕ, List, [], ◌∷◌, ◌++◌, refl, sym, subst}
use lib.Dec.{T}
use seplogic.Ra.Ura.{Ura}
use mir.Raw.{raw as bare}
use mir.Val.{Val, vstruct, vcons, vnil, of_list}
use base.Logic.{ent, never, fst∗, snd∗, via, guard, guard_i}
use contract.Monad.{fact_use}
use types.Logic.{Logic, sem}
use types.Kit.{Item, Goal, Seq, Step, step, ‵, given, ◌$◌, drop, fsplit, fjoin, fpick, fpack, feq_i, feq_l, use1, learn, rewrite}
use denote.RattleType.{Valss}
use denote.Builtin.{RawPtr}
use denote.Memory.{lone}
use denote.RawPtr.{Ptr, block_ptr, null_ptr, ptr_val, in_a_block, lies_at, Testable}
use base.Fraction.{full_share}
use denote.Steps.{nothing}
use denote.Struct.Struct.{within}
use denote.Struct.Owning.{shape}
use Rattle.std.specs.declared.option.Option.{Option}
use Rattle.std.specs.declared.option.Option.TheVariants.{None, Some}
use Rattle.std.specs.Prelude.{IsSome}
use Rattle.std.specs.declared.alloc.Global.{Global}
use base.Fml.{Fml}
use Rattle.std.specs.Box.Ownership.{box_owns}
use Rattle.std.proofs.GlobalToken.{dealloc_token-Testable}
use Rattle.std.specs.contracts.impls.GlobalAllocator.TheImpl.{ghosts}
use Rattle.flcol_c.specs.Owned.{handle_owns}
use Rattle.fl_array.specs.Trees.{Tree}
use Rattle.flcol_c.specs.declared.handle.ArrayHandle.{ArrayHandle}
use Rattle.fl_array.specs.contracts.array.ArrayRef as array
use Rattle.flcol_c.specs.contracts.handle.ArrayHandle as handle

abbrev pub word_val : Ptr → Val
word_val p = vstruct (vcons (ptr_val p) vnil)

module _ {M : Type 1} {𝓤 : Ura M} {𝓛 : Logic 𝓤} {K : Type 0} {Γ : List (Item 𝓤)} {G : Goal 𝓤 𝓛.H} where
  pub handle_out : K → (d : ArrayHandle) (vs : List Val) → (vs ≡ word_val d.word ∷ [] → Seq K 𝓛 (‵ (handle_owns d.word d.tree) ∷ Γ) G) → Seq K 𝓛 (‵ ((handle.the_row).own_val d vs) ∷ Γ) G
  handle_out t d vs k =
      fsplit t $ fpick t (λ vss. fsplit t $ feq_l t (λ ev. fsplit t $ feq_l t (λ ep. drop t $ k (subst (λ (ps : List Val). vs ≡ vstruct (of_list (ps ++ [])) ∷ []) ep ev))))

  pub handle_in : K → (p : Ptr) (v : Option Tree) → Step K 𝓛 (‵ ((handle.the_row).own_val (record { word = p; tree = v }) (word_val p ∷ [])) ∷ Γ) G (‵ (handle_owns p v) ∷ Γ) G
  handle_in t p v = step (λ s.
      nothing t $ feq_i t (List Val) (ptr_val p ∷ []) (ptr_val p ∷ []) refl $ fjoin t $ feq_i t (List Val) (word_val p ∷ []) (word_val p ∷ []) refl $ fjoin t $
      fpack t (Valss (RawPtr ∷ [])) (within (shape (handle.the_type)) (p, tt) (word_val p ∷ [])) (ptr_val p ∷ [], tt) $ fjoin t $ s)

-- the token of every `Global` is the same
abbrev pub owned : Global → Ptr → Tree → Fml
owned a p x = box_owns (ghosts.dealloc_token a) array.the_row p x

module _ {M : Type 1} {𝓤 : Ura M} (𝓛 : Logic 𝓤) (a : Global) where
  tested : (p : Ptr) (x : Tree) → ent 𝓤 (sem 𝓛 (owned a p x)) (guard 𝓤 (Testable p) (sem 𝓛 (owned a p x)))
  tested p x =
      fact_use 𝓤 (Testable p) (via 𝓤 _ (snd∗ 𝓤 (sem 𝓛 (lies_at array.the_row full_share p x)) (sem 𝓛 (ghosts.dealloc_token a (bare (lone (array.the_row).mir)) p)))
      (dealloc_token-Testable 𝓛 a (bare (lone (array.the_row).mir)) p)) (guard_i 𝓤 (Testable p) (sem 𝓛 (owned a p x)))

module _ {M : Type 1} {𝓤 : Ura M} {𝓛 : Logic 𝓤} {K : Type 0} {Γ : List (Item 𝓤)} {G : Goal 𝓤 𝓛.H} where
  pub some_in : K → (a : Global) (p : Ptr) (x : Tree) → Step K 𝓛 (‵ (handle_owns p (Some x)) ∷ Γ) G (‵ (owned a p x) ∷ Γ) G
  some_in t a p x = step (λ s. fpack t Global (λ alloc. owned alloc p x) a $ s)

  pub either : K → (a : Global) (p : Ptr) (v : Option Tree) → (p ≡ null_ptr → v ≡ None → Seq K 𝓛 Γ G)
      → ((b o : ℕ) (x : Tree) → p ≡ block_ptr b o → v ≡ Some x → Testable (block_ptr b o) → Seq K 𝓛 (‵ (owned a (block_ptr b o) x) ∷ Γ) G)
      → Seq K 𝓛 (‵ (handle_owns p v) ∷ Γ) G
  either t a p None none one = feq_l t (λ e. none e refl)
  either t a p (Some x) none one =
      fpick t (λ a'. in_a_block t p (λ q. owned a q x) (fst∗ 𝓤 (never 𝓤) (sem 𝓛 (ghosts.dealloc_token a (bare (lone (array.the_row).mir)) null_ptr))) (λ b o e.
      use1 𝓛 (given (Testable (block_ptr b o)) (‵ (owned a (block_ptr b o) x))) (tested 𝓛 a (block_ptr b o) x) $ learn t (λ i. one b o x e refl i)))

  pub held_out : K → (p : Ptr) (v : Option Tree) → IsSome v → ((a : Global) (b o : ℕ) (x : Tree) → p ≡ block_ptr b o → v ≡ Some x → Seq K 𝓛 (‵ (owned a (block_ptr b o) x) ∷ Γ) G) → Seq K 𝓛 (‵ (handle_owns p v) ∷ Γ) G
  held_out t p None some one = absurd (subst T (sym some) tt)
  held_out t p (Some x) some one =
      fpick t (λ a. in_a_block t p (λ q. owned a q x) (fst∗ 𝓤 (never 𝓤) (sem 𝓛 (ghosts.dealloc_token a (bare (lone (array.the_row).mir)) null_ptr))) (λ b o e. one a b o x e refl))

  -- what the handle owns is kept
  pub looks_null : K → (p : Ptr) (v : Option Tree) → (p ≡ null_ptr → v ≡ None → Seq K 𝓛 (‵ (handle_owns p v) ∷ Γ) G)
      → ((b o : ℕ) (x : Tree) → p ≡ block_ptr b o → v ≡ Some x → Testable (block_ptr b o) → Seq K 𝓛 (‵ (handle_owns p v) ∷ Γ) G)
      → Seq K 𝓛 (‵ (handle_owns p v) ∷ Γ) G
  looks_null t p None none one = feq_l t (λ e. feq_i t Ptr p null_ptr e $ none e refl)
  looks_null t p (Some x) none one =
      fpick t (λ a. in_a_block t p (λ q. owned a q x) (fst∗ 𝓤 (never 𝓤) (sem 𝓛 (ghosts.dealloc_token a (bare (lone (array.the_row).mir)) null_ptr))) (λ b o e.
      use1 𝓛 (given (Testable (block_ptr b o)) (‵ (owned a (block_ptr b o) x))) (tested 𝓛 a (block_ptr b o) x) $ learn t (λ i. some_in t a (block_ptr b o) x $
      rewrite t 0 (λ (z : Ptr). ‵ (handle_owns z (Some x))) (sym e) refl $ one b o x e refl i)))
