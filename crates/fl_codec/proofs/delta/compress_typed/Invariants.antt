use Rattle.std.proofs.Common.{◌≡◌, map}
use Rattle.fl_codec.specs.Deltas.{bases_to, deltas_to}
use Rattle.fl_codec.specs.ForwardFill.{carried_to}
use Rattle.fl_codec.specs.Parts.{items_of_primitive}
use Rattle.fl_codec.proofs.delta.compress_typed.Given as goal

-- the chunks so far
abbrev pub invariant-loop-k : goal.invariant-loop-k
invariant-loop-k g l =
    let value = g.T.Number.value in
    let ptype = g.T.NativePType.PTYPE in
    let items = items_of_primitive l.array in record {
      last : value l.last ≡ carried_to items l.k;
      bases : map value l.bases.items ≡ bases_to ptype items l.k;
      deltas : map value l.deltas.items ≡ deltas_to ptype items l.k;
    }
