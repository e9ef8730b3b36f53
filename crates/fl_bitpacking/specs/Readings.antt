-- What a counted reader has of packed bytes, and what it has read of them.
use Rattle.std.specs.Prelude.{◌≡◌, ◌≤◌, ◌+◌, ◌*◌, ℕ, List, min}
use Rattle.fl_types.specs.Bits.{between}
use Rattle.fl_bitpacking.specs.declared.packed_data.single_items.BlockExtent.{BlockExtent}

-- the packed bytes, and the numbers of blocks and of words that were read of them
pub record Reading : Type 0 where
  pub bytes : List ℕ
  pub blocks : ℕ
  pub words : ℕ

-- the same bytes and words, with this number of blocks
abbrev pub with_blocks : ℕ → Reading → Reading
with_blocks n r = record { bytes = r.bytes; blocks = n; words = r.words }

-- so many more blocks were read; the number stops at the largest u64
abbrev pub more_blocks : ℕ → Reading → Reading
more_blocks n r = with_blocks (min (r.blocks + n) 18446744073709551615) r

-- so many more words were read; the number stops at the largest u64
abbrev pub more_words : ℕ → Reading → Reading
more_words n r = record { bytes = r.bytes; blocks = r.blocks; words = min (r.words + n) 18446744073709551615 }

-- at most so many words more were read of the same bytes, and no block
pub record AreFewWords (most : ℕ) (old new : Reading) : Type 0 where
  pub bytes : new.bytes ≡ old.bytes
  pub blocks : new.blocks ≡ old.blocks
  pub words : new.words ≤ old.words + most

-- at most so many blocks more were read of the same bytes, and no word
pub record AreFewBlocks (most : ℕ) (old new : Reading) : Type 0 where
  pub bytes : new.bytes ≡ old.bytes
  pub blocks : new.blocks ≤ old.blocks + most
  pub words : new.words ≡ old.words

-- at most so many blocks more were read of the same bytes, and any words
pub record AreFewReads (most : ℕ) (old new : Reading) : Type 0 where
  pub bytes : new.bytes ≡ old.bytes
  pub blocks : new.blocks ≤ old.blocks + most

-- of the bytes those of a block of this extent
abbrev pub bytes_at : BlockExtent → List ℕ → List ℕ
bytes_at extent bytes = between extent.start (extent.start + 128 * extent.width) bytes
