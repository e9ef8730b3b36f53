-- Run-length encoded arrays by their parts, and when parts make one.
use Rattle.std.specs.Prelude.{length, Option, Some, None, Result}
use Rattle.fl_types.specs.declared.error.FastLanesError.{FastLanesError}
use Rattle.fl_column.specs.Columns.{PrimitiveParts}
use Rattle.fl_bitpacking.specs.Refusals.{accepted}
use Rattle.fl_codec.specs.Dictionaries.{encode_dictionaries}
use Rattle.fl_codec.specs.Parts.{encode_runs}
use Rattle.fl_codec.specs.RunRefusals.{rle_refusal}
use Rattle.fl_array.specs.Trees.{Tree, OffsetLen, Primitive, RLE, column}
use Rattle.fl_array.specs.Trees as tree

-- a run-length encoded array
pub record RLEArrayParts : Type 0 where
  pub values : Tree
  pub indices : Tree
  pub offsets : Tree
  pub window : OffsetLen

-- the array as a tree
abbrev pub tree_of_rle : RLEArrayParts → Tree
tree_of_rle a = RLE a.values a.indices a.offsets a.window

-- the run-length encoded array that a tree is, if it is one
abbrev pub rle_in : Tree → Option RLEArrayParts
rle_in (tree.RLE values indices offsets window) = Some (record { values = values; indices = indices; offsets = offsets; window = window })
rle_in other = None

-- why an array's parts make none, the first reason that holds
abbrev pub refusal_of_rle : RLEArrayParts → Option FastLanesError
refusal_of_rle a = rle_refusal (column a.values) (column a.indices) (column a.offsets) a.window.offset a.window.len

-- the array of these run values, run indices and run offsets, or why there is none
abbrev pub new_rle : Tree → Tree → Tree → OffsetLen → Result RLEArrayParts FastLanesError
new_rle values indices offsets window =
    let a : RLEArrayParts = record { values = values; indices = indices; offsets = offsets; window = window } in
    accepted a (refusal_of_rle a)

-- the run-length encoded array of a plain one
abbrev pub encoded_rle : PrimitiveParts → RLEArrayParts
encoded_rle p = record {
  values = Primitive (encode_runs p).values;
  indices = Primitive (encode_runs p).indices;
  offsets = Primitive (encode_runs p).offsets;
  window = record { offset = 0; len = length p.slots };
}

-- the run-length encoded array of a plain one that has a dictionary for each chunk
abbrev pub encoded_dictionary : PrimitiveParts → RLEArrayParts
encoded_dictionary p = record {
  values = Primitive (encode_dictionaries p).values;
  indices = Primitive (encode_dictionaries p).indices;
  offsets = Primitive (encode_dictionaries p).offsets;
  window = record { offset = 0; len = length p.slots };
}
