-- Columns that are kept as a dictionary for each chunk, in the parts of run-length encoding.
use Rattle.std.specs.Prelude.{◌+◌, ◌*◌, ◌/◌, ◌%◌, ℕ, ℤ, pos, List, length, map, Option, flat_map}
use Rattle.std.specs.List.{range_with_len}
use Rattle.fl_types.specs.declared.dtype.PType.TheVariants.{U16, U64}
use Rattle.fl_types.specs.Bits.{tabulate}
use Rattle.fl_column.specs.Columns.{PrimitiveParts}
use Rattle.fl_codec.specs.Chunks.{chunks_of}
use Rattle.fl_codec.specs.ForwardFill.{Reset, fill_forward}
use Rattle.fl_codec.specs.Parts.{RunParts, items_of_primitive, non_nullable}
use Rattle.fl_codec.specs.Runs.{run_validity}
use Rattle.fl_codec.specs.Distinct.{distinct, rank}

-- the 1024 items of chunk k
unfoldable pub items_in_chunk : (ℕ → ℤ) → ℕ → List ℤ
items_in_chunk item k = tabulate (λ q. item (1024 * k + q)) 1024

-- the dictionary of chunk k: its items, rising, each once
abbrev pub chunk_dictionary : (ℕ → ℤ) → ℕ → List ℤ
chunk_dictionary item k = distinct (items_in_chunk item k)

-- the index at position q of chunk k: how many of the chunk's distinct items are below the item there
abbrev pub dictionary_index : (ℕ → ℤ) → ℕ → ℕ → ℕ
dictionary_index item k q = rank (chunk_dictionary item k) (item (1024 * k + q))

-- the dictionaries of the first chunks, one chunk after another
abbrev pub dictionaries_to : List (Option ℤ) → ℕ → List ℤ
dictionaries_to items chunks = flat_map (chunk_dictionary (fill_forward Reset items)) (range_with_len 0 chunks)

-- the index at each position of the first chunks, under nulls and in the padding too
abbrev pub dictionary_indices_to : List (Option ℤ) → ℕ → List ℕ
dictionary_indices_to items chunks = tabulate (λ p. dictionary_index (fill_forward Reset items) (p / 1024) (p % 1024)) (1024 * chunks)

-- how many values stand before each of the first chunks
abbrev pub dictionary_offsets_to : List (Option ℤ) → ℕ → List ℕ
dictionary_offsets_to items chunks = tabulate (λ k. length (dictionaries_to items k)) chunks

-- a plain array as a dictionary for each chunk
abbrev pub encode_dictionaries : PrimitiveParts → RunParts
encode_dictionaries p = record {
  values = non_nullable p.ptype (dictionaries_to (items_of_primitive p) (chunks_of (length p.slots)));
  indices = record { ptype = U16; slots = map (λ n. pos n) (dictionary_indices_to (items_of_primitive p) (chunks_of (length p.slots))); validity = run_validity p.validity (length p.slots) (1024 * chunks_of (length p.slots)) };
  offsets = non_nullable U64 (map (λ n. pos n) (dictionary_offsets_to (items_of_primitive p) (chunks_of (length p.slots))));
}
