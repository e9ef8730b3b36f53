use Rattle.std.proofs.Common.{◌≡◌, map}
use Rattle.fl_codec.specs.Deltas.{bases_to}
use Rattle.fl_codec.specs.ForwardFill.{carried_to}
use Rattle.fl_codec.specs.Parts.{items_of_primitive}
use Rattle.fl_codec.proofs.delta.blocks.bases_typed.Given as goal

-- the chunks so far
abbrev pub invariant-loop-k : goal.invariant-loop-k
invariant-loop-k g l = record {
  last : g.T.Number.value l.last ≡ carried_to (items_of_primitive l.array) l.k;
  bases : map g.T.Number.value l.bases.items ≡ bases_to g.T.NativePType.PTYPE (items_of_primitive l.array) l.k;
}
