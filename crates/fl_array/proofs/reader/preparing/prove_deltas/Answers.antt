use Rattle.std.proofs.Common.{◌≡◌, ◌∙◌, sym, subst}
use Rattle.fl_patches.proofs.Parts.{ok_same}
use Rattle.fl_column.specs.Columns.{Column}
use Rattle.fl_array.specs.NoNulls.{HasNoNulls}
use Rattle.fl_array.specs.Trees.{Tree, column}
use Rattle.fl_array.proofs.reader.preparing.prove_deltas.Goals as goal

pub returns : goal.returns
returns c =
    let a = c.args.array.now in
    let same : c.args.deltas.now.column ≡ column a.deltas = ok_same _ _ (sym (c.requires.deltas ∙ c.prove_integers.ensures.deltas)) in
    let shown : HasNoNulls (column a.deltas) = subst (λ (t : Tree). HasNoNulls (column t)) c.deltas.ensures c.prove_no_nulls.ensures in
    record {
      own_bases = ok_same _ _ (sym (c.requires.bases ∙ c.prove_integers.ensures.bases));
      own_deltas = same;
      no_nulls = subst (λ (x : Column). HasNoNulls x) (sym same) shown;
    }
