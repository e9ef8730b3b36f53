use Rattle.std.proofs.Common.{◌≡◌, ◌<◌, ℕ, None, get_or, map, option_map, true}
use Rattle.fl_column.specs.Queries.{same_item}
use Rattle.fl_codec.specs.Chunks.{chunk}
use Rattle.fl_codec.specs.Parts.{items_of_primitive}
use Rattle.fl_statistics.specs.Differences.{less_references}
use Rattle.fl_statistics.proofs.constants.are_same.Given as goal

-- those so far are equal to it
abbrev pub invariant-loop-q : goal.invariant-loop-q
invariant-loop-q g l =
    let value = g.T.Number.value in
    let items = less_references g.T.NativePType.PTYPE (value l.references.one) (map value l.references.list.now) (items_of_primitive (g.S.BlockSource.parts l.source)) in
    (j : ℕ) → j < l.q → same_item (option_map value l.first) (get_or (chunk l.block items) j None) ≡ true
