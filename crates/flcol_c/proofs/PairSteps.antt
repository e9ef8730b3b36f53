-- A pointer and an allocator in one struct, as a box and its parts both are. Assumes `Logic`.
--     pair, Pair         the machine value at the pointer's and the allocator's, and what such a struct owns beside the memory at the pointer
--     is_ptr, is_alone, is_pair     a pointer's machine value, a struct's that holds it alone, and a pair's, is of its type
--     alloc_word, pair_word     what is owned of an allocator, or of a pair, says that it is one machine value
-- The steps of a proof:
--     alloc_at           what is owned of an allocator is owned at one machine value
--     as_arguments       what a pair owns is what its allocator and its pointer own, one after the other
--     apart, together    a pair with something owned beside it, as a box's parts with the memory, is [what is beside it; the allocator];  and the way back
use Rattle.std.proofs.Common.{◌≡◌, List, [], ◌∷◌, ◌++◌, refl, subst, ◌∙◌}
use lib.Dec.{T}
use seplogic.Ra.Ura.{Ura}
use base.Fml.{Fml, fsep}
use mir.Syntax.{ty_ptr}
use mir.Val.{Val, vstruct, vcons, vnil, of_list, has_ty, has_tys, WT, WTs}
use types.Logic.{Logic}
use types.Kit.{Item, Goal, Seq, Step, step, ‵, ◌$◌, move, drop, fsplit, fjoin, fpick, fpack, feq_i, feq_l, rewrite}
use denote.RattleType.{RattleType, Valss, owns}
use denote.Laws.{Typed, Is, shows}
use denote.Param.{layout, param}
use denote.Param.Laws.{Laws, param_laws}
use denote.RawPtr.{Ptr, RawPtr, ptr_val, rawptr_Lawful}
use denote.Struct.Struct.{Shape, Struct, within, as_fields, to_tys}
use denote.Steps.{nothing, peeks}
use borrow.Struct.Leaves.{Lone-is}

-- a pointer's machine value beside an allocator's
abbrev pub pair : Ptr → Val → Val
pair p h = vstruct (vcons (ptr_val p) (vcons h vnil))

one_pair : (p : Ptr) (h : Val) {vs us : List Val} → vs ≡ ptr_val p ∷ [] → us ≡ h ∷ [] → vstruct (of_list (vs ++ (us ++ []))) ∷ [] ≡ pair p h ∷ []
one_pair p h d e = λ i. vstruct (of_list (d i ++ (e i ++ []))) ∷ []

module _ (A : RattleType) where
  abbrev pub Alloc : RattleType
  Alloc = param 1 A

  abbrev PairShape : Shape
  PairShape = record { name = []; args = []; types = []; fields = RawPtr ∷ Alloc ∷ [] }

  -- a struct of a pointer and an allocator owns this, whatever its name is
  abbrev pub Pair : RattleType
  Pair = Struct PairShape

  abbrev pub IsAlloc : Val → Type 0
  IsAlloc h = T (has_ty (layout A) h) × WT h

  abbrev pub IsPair : Ptr → Val → Type 0
  IsPair p h = T (has_tys (to_tys (ty_ptr ∷ layout A ∷ [])) (of_list (ptr_val p ∷ h ∷ []))) × WTs (of_list (ptr_val p ∷ h ∷ []))

abbrev pub IsPtr : Ptr → Type 0
IsPtr p = T (has_ty ty_ptr (ptr_val p)) × WT (ptr_val p)

module _ {M : Type 1} {𝓤 : Ura M} (𝓛 : Logic 𝓤) where
  pub is_ptr : (p : Ptr) → IsPtr p
  is_ptr p = ((rawptr_Lawful 𝓛).typed p (ptr_val p ∷ []) refl).0

  pub is_alone : (p : Ptr) → T (has_tys (to_tys (ty_ptr ∷ [])) (of_list (ptr_val p ∷ []))) × WTs (of_list (ptr_val p ∷ []))
  is_alone p = as_fields (ty_ptr ∷ []) (ptr_val p ∷ []) (is_ptr p, tt)

  module _ (A : RattleType) (LA : Laws A) where
    pub is_pair : (p : Ptr) (h : Val) → IsAlloc A h → IsPair A p h
    is_pair p h good = as_fields (ty_ptr ∷ layout A ∷ []) (ptr_val p ∷ h ∷ []) (is_ptr p, (good, tt))

    -- an allocator is one machine value, and a pair is one of the two
    pub alloc_word : (a : A.Denot) (vs : List Val) → Is (Alloc A) a vs → (h : Val) × ((vs ≡ h ∷ []) × IsAlloc A h)
    alloc_word a vs is = let L = param_laws 1 A LA in let e = Lone-is vs (L.single a vs is) in (_, (e, (subst (Typed (layout A ∷ [])) e ((L.lawful 𝓛).typed a vs is)).0))

    pub pair_word : (p : Ptr) (a : A.Denot) (vs : List Val) → Is (Pair A) (p, (a, tt)) vs → (h : Val) × ((vs ≡ pair p h ∷ []) × IsAlloc A h)
    pair_word p a vs is = let w = alloc_word a is.0.1.0 is.1.1.1.0 in (w.0, (is.1.0 ∙ one_pair p w.0 is.1.1.0 w.1.0, w.1.1))

module _ (A : RattleType) (LA : Laws A) {M : Type 1} {𝓤 : Ura M} {𝓛 : Logic 𝓤} {K : Type 0} {Γ : List (Item 𝓤)} {G : Goal 𝓤 𝓛.H} where
  -- an allocator, wherever it lies, is owned at one machine value
  pub alloc_at : K → (a : A.Denot) (vs : List Val)
      → ((h : Val) → vs ≡ h ∷ [] → IsAlloc A h → Seq K 𝓛 (‵ ((Alloc A).own_val a (h ∷ [])) ∷ Γ) G)
      → Seq K 𝓛 (‵ ((Alloc A).own_val a vs) ∷ Γ) G
  alloc_at t a vs k =
      peeks t (Alloc A) _ (shows 𝓛 (Alloc A)) a vs (λ is. let word = alloc_word 𝓛 A LA a vs is in
      rewrite t 0 (λ (vs : List Val). ‵ ((Alloc A).own_val a vs)) word.1.0 refl $ k word.0 word.1.0 word.1.1)

module _ (A : RattleType) (LA : Laws A) {M : Type 1} {𝓤 : Ura M} {𝓛 : Logic 𝓤} {K : Type 0} {Γ : List (Item 𝓤)} {G : Goal 𝓤 𝓛.H} where
  -- a struct of the two, passed on as an allocator and then a pointer
  pub as_arguments : K → (p : Ptr) (a : A.Denot) (vs : List Val)
      → ((h : Val) → vs ≡ pair p h ∷ [] → IsAlloc A h → Seq K 𝓛 (‵ (owns (Alloc A ∷ RawPtr ∷ []) (a, (p, tt)) (h ∷ [], (ptr_val p ∷ [], tt))) ∷ Γ) G)
      → Seq K 𝓛 (‵ ((Pair A).own_val (p, (a, tt)) vs) ∷ Γ) G
  as_arguments t p a vs k =
      fpick t (λ vss. fsplit t $ feq_l t (λ made. fsplit t $ feq_l t (λ first. fsplit t $ alloc_at A LA t a vss.1.0 (λ h word good. move t (1 ∷ []) $
      feq_i t (List Val) (ptr_val p ∷ []) (ptr_val p ∷ []) refl $ fjoin t $ move t (1 ∷ []) $ fjoin t $ k h (made ∙ one_pair p h first word) good))))

module _ (A : RattleType) (LA : Laws A) {M : Type 1} {𝓤 : Ura M} {𝓛 : Logic 𝓤} {K : Type 0} {Γ : List (Item 𝓤)} {G : Goal 𝓤 𝓛.H} {P : Fml} where
  pub apart : K → (p : Ptr) (a : A.Denot) (vs : List Val)
      → ((h : Val) → vs ≡ pair p h ∷ [] → IsAlloc A h → Seq K 𝓛 (‵ P ∷ ‵ ((Alloc A).own_val a (h ∷ [])) ∷ Γ) G)
      → Seq K 𝓛 (‵ (fsep ((Pair A).own_val (p, (a, tt)) vs) P) ∷ Γ) G
  apart t p a vs k =
      fsplit t $ as_arguments A LA t p a vs (λ h word good. fsplit t $ move t (1 ∷ []) $ drop t $ move t (1 ∷ []) $ k h word good)

module _ (A : RattleType) {M : Type 1} {𝓤 : Ura M} {𝓛 : Logic 𝓤} {K : Type 0} {Γ : List (Item 𝓤)} {G : Goal 𝓤 𝓛.H} {P : Fml} where
  pub together : K → (p : Ptr) (a : A.Denot) (h : Val)
      → Step K 𝓛 (‵ (fsep ((Pair A).own_val (p, (a, tt)) (pair p h ∷ [])) P) ∷ Γ) G (‵ P ∷ ‵ ((Alloc A).own_val a (h ∷ [])) ∷ Γ) G
  together t p a h = step (λ s.
      nothing t $ move t (2 ∷ []) $ fjoin t $ feq_i t (List Val) (ptr_val p ∷ []) (ptr_val p ∷ []) refl $ fjoin t $
      feq_i t (List Val) (pair p h ∷ []) (pair p h ∷ []) refl $ fjoin t $
      fpack t (Valss (RawPtr ∷ Alloc A ∷ [])) (within (PairShape A) (p, (a, tt)) (pair p h ∷ [])) (ptr_val p ∷ [], (h ∷ [], tt)) $ fjoin t $ s)
