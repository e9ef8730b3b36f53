use Rattle.std.proofs.Common.{◌≡◌, ◌+◌, ◌*◌, ◌∙◌, length, refl, arith, ap}
use Rattle.fl_column.specs.Chunks.{chunk_count}
use Rattle.fl_column.proofs.ChunkLaws.{chunk_is_next}
use Rattle.fl_bitpacking.proofs.WordLaws.{words_made, words_packed_more}
use Rattle.fl_bitpacking.proofs.bitpack_compress.word_packing.pack_words.Goals as goal

pub loop-j-init : goal.loop-j-init
loop-j-init g c =
    let items = ap length c.in_ok-packed.ensures.items in record {
      words = refl;
      long = omega arith;
      each = λ k h. absurd (omega arith);
    }

pub loop-j-preserved : goal.loop-j-preserved
loop-j-preserved g c =
    let lanes = g.T.Physical.FastLanes.LANES in
    let j = c.loop-j.j in
    let words = c.loop-j.invariant.words in
    let blocks = c.chunk_count-blocks.ensures in
    let kept = c.push_block.auto.words in
    let so_far = c.loop-j.invariant.long in
    let added = c.in_ok-push_block.ensures.long in
    let more : c.args.width * lanes * (j + 1) ≡ c.args.width * lanes * j + c.args.width * lanes = grind arith in
    record {
      words = omega arith;
      long = omega arith;
      each = words_packed_more g.T.Number.value g.T.NativePType.PTYPE g.T.Physical.FastLanes.T lanes c.args.width c.args.items.now c.chunk_of-chunk.result.now c.loop-j.packed.items c.push_block.new.packed.items j g.met.T.Physical.FastLanes.shape so_far (c.chunk_of-chunk.ensures.items ∙ chunk_is_next j c.args.items.now)
          c.in_ok-push_block.ensures.before c.in_ok-push_block.ensures.packed c.loop-j.invariant.each;
    }

pub returns : goal.returns
returns g c =
    let lanes = g.T.Physical.FastLanes.LANES in
    let ended : c.loop-j.j ≡ chunk_count (length c.args.items.now) = let end = c.chunk_count-blocks.ensures in let last = c.loop-j-test.false in let auto = c.loop-j.auto in omega arith in
    words_made g.T.Number.value g.T.NativePType.PTYPE g.T.Physical.FastLanes.T lanes c.args.width c.args.items.now c.loop-j.packed.items g.met.T.Physical.FastLanes.shape g.met.T.PhysicalPType.width_law (c.loop-j.invariant.long ∙ ap (λ n. c.args.width * lanes * n) ended)
    (rw ended at c.loop-j.invariant.each)
