-- `none` is null, which owns nothing.
use Rattle.std.proofs.Common.{◌≡◌, [], ◌∷◌, refl, lit<}
use mir.Val.{Val}
use base.Logic.{SProp, emp}
use base.Fml.{ftrue}
use contract.Monad.{fact, fact_i}
use contract.Running.{tables}
use types.Kit.{‵, raw, ◌⊛◌, ◌$◌, ◌∵◌, !, qed, by, keep, use0, feq_i}
use types.Run.{lit, and_then, no_more, returns, enter}
use types.ByLocal.{alloc_all, pass_all, free_all, look_at, sets}
use types.Part.{agg}
use denote.RawPtr.{Ptr, null_ptr}
use denote.Steps.{nothing}
use denote.Triple.Walked.{Stays, walk_of}
use Rattle.std.proofs.raw_atomic.Walks.{proved_at, leaves}
use Rattle.std.specs.declared.option.Option.{Option}
use Rattle.std.specs.declared.option.Option.TheVariants.{None}
use Rattle.fl_array.specs.Trees.{Tree}
use Rattle.flcol_c.proofs.HandleSteps.{word_val, handle_in}
use Rattle.flcol_c.specs.contracts.handle.ArrayHandle.none.{ended, clauses}
use Rattle.flcol_c.specs.contracts.handle.ArrayHandle.none.Key.{name as #self}
use Rattle.flcol_c.proofs.handle.ArrayHandle.none.Statement.{statement}
use Rattle.flcol_c.proofs.handle.ArrayHandle.none.Code as code

pub none_spec : {M : Type 1} → statement M
none_spec 𝓤 𝓛 𝓜 𝓡 wired =
    let H = 𝓛.H in let 𝓣 = tables 𝓤 H 𝓜 𝓡 𝓡.env in let c = clauses 𝓛 𝓜.mem 𝓡.returns in let hs : Stays ended.signature.params ended.kept = tt in
    proved_at 𝓛 ended hs c 𝓜 𝓡 tt #self code.function (code.unfolded 𝓤 H 𝓜 𝓡 wired) (λ z are. let Post : Val → SProp 𝓤 = (walk_of 𝓛 ended hs c).post z in
    let empty : Option Tree = None in
    qed 𝓛 ((‵ ftrue ⊛ ‵ ftrue) ∷ raw ((c z.0.0 z.0.3).requires z.1) ∷ []) ∵ keep ! [] $ enter ! 𝓣.C 𝓣.Λ code.function [] Post $ alloc_all ! (λ l. pass_all ! refl tt $
    sets ! (agg ! (and_then ! (lit ! tt) (no_more !))) refl (tt, (record { fits = lit< tt }, tt)) $ returns ! (look_at ! 0 refl) $ free_all ! refl $
    use0 𝓛 (raw (fact 𝓤 (empty ≡ empty))) (fact_i 𝓤 _ (emp 𝓤) refl) $ feq_i ! Ptr null_ptr null_ptr refl $ handle_in ! null_ptr empty $ nothing ! $ nothing ! $
    by ! (leaves 𝓛 ended hs c z (word_val null_ptr) (record { word = null_ptr; tree = empty }) tt tt)))
