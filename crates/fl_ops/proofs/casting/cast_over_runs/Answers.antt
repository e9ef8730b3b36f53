use Rattle.std.proofs.Common.{◌≡◌, ◌∙◌, Ok, ap, rules, sym}
use Rattle.fl_types.specs.Types.{nullability_in}
use Rattle.fl_array.specs.Trees.{RLE, Tree, column}
use Rattle.fl_ops.proofs.CastedTrees.{indices_type, runs_cast_ok}
use Rattle.fl_ops.proofs.casting.cast_over_runs.Goals as goal

pub over-requires-clause-index_type : goal.over-requires-clause-index_type
over-requires-clause-index_type c = indices_type (nullability_in c.args.target) (column c.args.array.now.indices) (column c.args.indices) c.requires.indices

pub returns-clause-column : goal.returns-clause-column
returns-clause-column c =
    let made : c.into_array.result ≡ RLE c.args.values c.args.indices c.args.array.now.offsets c.args.array.now.window = search rules in
    runs_cast_ok c.args.array.now c.args.values c.args.indices c.args.target c.rle_is_well_formed.ensures c.requires.integer c.requires.values c.requires.indices ∙ ap (λ (t : Tree). Ok (column t)) (sym made)
