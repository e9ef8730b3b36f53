use Rattle.std.proofs.Common.{◌≡◌, map}
use Rattle.fl_codec.specs.Dictionaries.{dictionaries_to, dictionary_indices_to, dictionary_offsets_to}
use Rattle.fl_codec.specs.Parts.{items_of_primitive}
use Rattle.fl_codec.proofs.rle.dictionary.push_chunks.Given as goal

-- the chunks so far
abbrev pub invariant-loop-k : goal.invariant-loop-k
invariant-loop-k g l =
    let items = items_of_primitive l.array in record {
      values : map g.T.Number.value l.parts.values.items ≡ dictionaries_to items l.k;
      indices : l.parts.indices.items ≡ dictionary_indices_to items l.k;
      offsets : l.parts.offsets.items ≡ dictionary_offsets_to items l.k;
    }
