use Rattle.std.proofs.Common.{◌≡◌, ◌<◌, ◌*◌, None, get_or, map, option_map, true}
use Rattle.std.specs.List.{list_all}
use Rattle.fl_types.specs.Bits.{between}
use Rattle.fl_column.specs.Queries.{same_item}
use Rattle.fl_codec.specs.Parts.{items_of_primitive}
use Rattle.fl_statistics.specs.Differences.{less_references}
use Rattle.fl_statistics.proofs.constants.is_constant.Given as goal

-- what the next block needs, the first item, and that those so far are equal to it
abbrev pub invariant-loop-block : goal.invariant-loop-block
invariant-loop-block g l =
    let value = g.T.Number.value in
    let items = less_references g.T.NativePType.PTYPE (value l.references.one) (map value l.references.list.now) (items_of_primitive (g.S.BlockSource.parts l.source)) in record {
      last : value l.last ≡ g.S.BlockSource.carried l.source l.block;
      first : 0 < l.block → option_map value l.first ≡ get_or items 0 None;
      equal : list_all (same_item (get_or items 0 None)) (between 0 (1024 * l.block) items) ≡ true;
    }
