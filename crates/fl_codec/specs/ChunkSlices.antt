-- The chunks that a slice keeps: from floor to ceiling.
use Rattle.std.specs.Prelude.{◌+◌, ◌/◌, ℕ}
use Rattle.fl_codec.specs.Chunks.{chunks_of}

-- the first chunk that a slice from start on keeps, where item 0 stands at an offset in chunk 0
abbrev pub first_chunk : ℕ → ℕ → ℕ
first_chunk offset start = (offset + start) / 1024

-- the chunk behind the last one that a slice up to end keeps
abbrev pub end_chunk : ℕ → ℕ → ℕ
end_chunk offset end = chunks_of (offset + end)
