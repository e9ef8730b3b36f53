use Rattle.std.proofs.Common.{◌≡◌, map}
use Rattle.fl_codec.specs.Parts.{items_of_primitive}
use Rattle.fl_codec.specs.Runs.{offsets_to, values_to}
use Rattle.fl_codec.proofs.rle.blocks.push_values_in.Given as goal

-- the chunks so far
abbrev pub invariant-loop-k : goal.invariant-loop-k
invariant-loop-k g l =
    let items = items_of_primitive l.array in record {
      values : map g.T.Number.value l.values.items ≡ values_to items l.k;
      offsets : l.offsets.items ≡ offsets_to items l.k;
    }
