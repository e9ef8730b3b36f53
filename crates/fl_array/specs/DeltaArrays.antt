-- Delta arrays by their parts, and when parts make one.
use Rattle.std.specs.Prelude.{Option, Some, None, Result}
use Rattle.fl_types.specs.declared.error.FastLanesError.{FastLanesError}
use Rattle.fl_bitpacking.specs.Refusals.{accepted}
use Rattle.fl_codec.specs.DeltaRefusals.{delta_refusal}
use Rattle.fl_array.specs.Trees.{DeltaParts, Tree, Delta, column}
use Rattle.fl_array.specs.Trees as tree

-- a delta array
pub record DeltaArrayParts : Type 0 where
  pub bases : Tree
  pub deltas : Tree
  pub parts : DeltaParts

-- the array as a tree
abbrev pub tree_of_delta : DeltaArrayParts → Tree
tree_of_delta a = Delta a.bases a.deltas a.parts

-- the delta array that a tree is, if it is one
abbrev pub delta_in : Tree → Option DeltaArrayParts
delta_in (tree.Delta bases deltas parts) = Some (record { bases = bases; deltas = deltas; parts = parts })
delta_in other = None

-- why an array's parts make none, the first reason that holds
abbrev pub refusal_of_delta : DeltaArrayParts → Option FastLanesError
refusal_of_delta a = delta_refusal (column a.bases) (column a.deltas) a.parts.validity a.parts.offset a.parts.len

-- the array of these bases and deltas, or why there is none
abbrev pub new_delta : Tree → Tree → DeltaParts → Result DeltaArrayParts FastLanesError
new_delta bases deltas parts =
    let a : DeltaArrayParts = record { bases = bases; deltas = deltas; parts = parts } in
    accepted a (refusal_of_delta a)
