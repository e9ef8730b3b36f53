use Rattle.std.proofs.Common.{◌≡◌, ◌∙◌, rules}
use Rattle.fl_types.specs.Values.{integer_of}
use Rattle.fl_ops.proofs.SortedLaws.{all_sums_mapped}
use Rattle.fl_ops.proofs.sorting.sums_fit_typed.Goals as goal

pub returns : goal.returns
returns g c =
    let same : g.T.Number.value c.unwrap-reference.result ≡ integer_of c.args.reference = search rules in
    c.all_sums_fit.ensures ∙ all_sums_mapped g.T.Number.value c.as_slice.result.now g.T.NativePType.PTYPE c.args.array.now.ptype (integer_of c.args.reference) (g.T.Number.value c.unwrap-reference.result) c.args.array.now.slots c.requires.array same c.as_slice.ensures
