use Rattle.std.proofs.Common.{◌+◌, ◌≡◌, Some, None, cond, rules, FitsSigned, pos}
use Rattle.std.specs.Int.{w128}
use Rattle.std.proofs.lemmas.Int.{to_z-of_z}
use Rattle.fl_types.specs.Integers.{fits}
use Rattle.flcol_engine.proofs.ParseLemmas.{number_begins}
use Rattle.flcol_engine.proofs.SliceLemmas.{from_index}
use Rattle.flcol_engine.proofs.text.short_item.Goals as goal

pub returns : goal.returns
returns g c =
    let z = pos c.in_ok-value.value in
    let fit : FitsSigned w128 c.from.result = search rules in
    let same : c.from.result ≡ z = c.from.ensures in
    let typed : Some (g.T.Number.value c.in_ok-item.item) ≡ cond (fits g.T.NativePType.PTYPE c.from.result) (Some c.from.result) None = simp to_z-of_z at c.in_ok-item.ensures in
    number_begins g.T.Number.value g.T.NativePType.PTYPE c.args.nullability c.args.text.now _ c.in_ok-value.value c.in_ok-value.count c.in_ok-item.item c.in_ok-value.ensures (rw same at typed) (from_index c.args.text.now (c.in_ok-value.count + 1))
