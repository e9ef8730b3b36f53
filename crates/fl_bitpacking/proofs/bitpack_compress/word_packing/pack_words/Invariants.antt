use Rattle.std.proofs.Common.{◌≡◌, ℕ, ◌+◌, ◌*◌, ◌<◌, length, map}
use Rattle.fastlanes.specs.Layout.{Packed}
use Rattle.fl_bitpacking.specs.Blocks.{pattern_in}
use Rattle.fl_bitpacking.proofs.bitpack_compress.word_packing.pack_words.Given as goal

-- the blocks so far
abbrev pub invariant-loop-j : goal.invariant-loop-j
invariant-loop-j g l =
    let value = g.T.Number.value in
    let ptype = g.T.NativePType.PTYPE in
    let lanes = g.T.Physical.FastLanes.LANES in record {
      words : length l.words ≡ 1024;
      long : length l.packed.items ≡ l.width * lanes * l.j;
      each : (k : ℕ) → k < l.j → Packed g.T.Physical.FastLanes.T lanes l.width (λ q. pattern_in ptype (map value l.items) (1024 * k + q)) (λ m. pattern_in ptype (map value l.packed.items) (l.width * lanes * k + m));
    }
