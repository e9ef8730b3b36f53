use Rattle.std.proofs.Common.{◌≡◌, ◌*◌, map, option_map}
use Rattle.fl_types.specs.Bits.{between, tabulate}
use Rattle.fl_codec.specs.ForwardFill.{carried_to}
use Rattle.fl_codec.specs.FoRColumns.{turned, valid_items}
use Rattle.fl_codec.specs.Parts.{compress_deltas, items_of_primitive}
use Rattle.fl_codec.proofs.DeltaLeasts.{chunk_reference}
use Rattle.fl_codec.proofs.FoRLaws.{IsLeast}
use Rattle.fl_codec.proofs.for_.delta_leasts.delta_leasts.Given as goal

-- the chunks so far
abbrev pub invariant-loop-k : goal.invariant-loop-k
invariant-loop-k g l =
    let value = g.T.Number.value in
    let p = l.array in record {
      last : value l.last ≡ carried_to (items_of_primitive p) l.k;
      references : map value l.references.items ≡ tabulate (chunk_reference l.fn.order p) l.k;
      least : IsLeast (option_map value l.least) (valid_items (map (option_map (turned g.T.NativePType.PTYPE (value l.origin))) (between 0 (1024 * l.k) (items_of_primitive (compress_deltas p).1))));
    }
