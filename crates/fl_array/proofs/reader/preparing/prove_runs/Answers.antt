use Rattle.std.proofs.Common.{◌≡◌, ◌∙◌, ap, sym, subst}
use Rattle.fl_patches.proofs.Parts.{ok_same}
use Rattle.fl_column.specs.Columns.{Column}
use Rattle.fl_array.specs.NoNulls.{HasNoNulls}
use Rattle.fl_array.specs.Trees.{Tree, column}
use Rattle.fl_array.proofs.reader.preparing.prove_runs.Goals as goal

pub returns : goal.returns
returns c =
    let r = c.args.runs.now in
    let a = r.array.now in
    let same : r.indices.column ≡ column a.indices = ok_same _ _ (sym (c.requires.indices ∙ c.prove_integers.ensures.indices)) in
    let never : HasNoNulls (column a.indices) = subst (λ (t : Tree). HasNoNulls (column t)) c.indices.ensures c.prove_no_nulls.ensures in
    record {
      own_values = ok_same _ _ (sym (c.requires.values ∙ c.prove_integers.ensures.values));
      own_offsets = ok_same _ _ (sym (c.requires.offsets ∙ c.prove_integers.ensures.offsets));
      own_indices = same;
      index_type = c.requires.index_type ∙ ap (λ (x : Column). x.dtype) (sym same);
      no_nulls = subst (λ (x : Column). HasNoNulls x) (sym same) never;
    }
