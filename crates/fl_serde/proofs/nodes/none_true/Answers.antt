use Rattle.std.proofs.Common.{ℕ, false, replicate, rules}
use Rattle.std.proofs.lemmas.List.{get_or-replicate, length-replicate}
use Rattle.std.proofs.lemmas.List.FromFn.{fill_by_all}
use Rattle.std.proofs.lemmas.Result.{IfOk-weaker}
use Rattle.fl_types.proofs.BitLists.{answered}
use Rattle.fl_serde.proofs.nodes.none_true.Goals as goal

pub returns : goal.returns
returns c =
    let len = c.args.len in
    rw (fill_by_all (λ (i : ℕ). false) (replicate len false) len false (length-replicate len false) (λ i lt. get_or-replicate len i false false lt))
    (answered (λ (i : ℕ). false) len c.from_fn.result c.from_fn.ensures.len (IfOk-weaker c.from_fn.result _ _ (λ b h i k. let e = h i k in search rules) c.from_fn.ensures.bits) c.from_fn.ensures.memory)
