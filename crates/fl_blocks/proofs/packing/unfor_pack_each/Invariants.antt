use Rattle.std.proofs.Common.{◌≡◌, ◌+◌, min, ◌+◌, ◌*◌, ◌^◌, ◌%◌, ◌<◌, ℕ}
use Rattle.fastlanes.specs.Layout.{unpacked_item}
use Rattle.fl_blocks.specs.Blocks.{items_of, words_of}
use Rattle.fl_blocks.proofs.packing.unfor_pack_each.Given as goal

-- the blocks so far
abbrev pub invariant-loop-k : goal.invariant-loop-k
invariant-loop-k g l =
    let pattern = g.W.FastLanes.pattern in
    let T = g.W.FastLanes.T in
    let lanes = g.W.FastLanes.LANES in
    record {
      each : (j i : ℕ) → j < l.k → i < 1024 → items_of pattern l.blocks j i ≡ (unpacked_item T lanes l.width (words_of pattern (l.width * lanes) l.packed j) i + pattern l.reference) % 2 ^ T;
      count : l.work.blocks ≡ min (l.initial.work.blocks + l.k) 18446744073709551615;
      words : l.work.words ≡ l.initial.work.words;
    }
