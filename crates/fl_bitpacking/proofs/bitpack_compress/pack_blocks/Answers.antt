use Rattle.std.proofs.Common.{◌≡◌, ◌<◌, length, arith, ap, sym, ◌∙◌}
use Rattle.fl_types.specs.Integers.{bits_of_type, lanes_of_type}
use Rattle.fl_bitpacking.proofs.Natives.{word_width}
use Rattle.fl_column.specs.Chunks.{chunk_count}
use Rattle.fl_bitpacking.specs.Blocks.{blocks_of}
use Rattle.fl_column.proofs.ChunkLaws.{chunk_is_next}
use Rattle.fl_bitpacking.proofs.Bounds.{width_named}
use Rattle.fl_bitpacking.proofs.Joined.{packed_more}
use Rattle.fl_bitpacking.proofs.bitpack_compress.pack_blocks.Goals as goal

pub loop-j-preserved : goal.loop-j-preserved
loop-j-preserved g c =
    let more = c.loop-j-test.true in
    let ended = c.chunk_count-j-end.ensures in
    let so_far = c.loop-j.invariant.long in
    let added = c.in_ok-push_block.ensures.long in
    let there : c.loop-j.j < chunk_count (length c.args.items.now) = omega arith in
    let width = c.of_block.ensures ∙ sym (width_named c.args.widths c.loop-j.j (c.requires.names c.loop-j.j there)) in
    let next = c.requires.joined.next c.loop-j.j (omega arith) in
    record {
      long = omega arith;
      each = packed_more g.T.Number.value g.T.NativePType.PTYPE (bits_of_type g.T.NativePType.PTYPE) (lanes_of_type g.T.NativePType.PTYPE) (blocks_of c.args.widths) c.args.items.now c.chunk_of.result.now c.loop-j.bytes.items c.push_block.new.bytes.items c.loop-j.j (length c.loop-j.bytes.items) _ _ _ (word_width g.T.NativePType.PTYPE) c.requires.joined (omega arith)
          so_far width (c.chunk_of.ensures.items ∙ chunk_is_next c.loop-j.j c.args.items.now) c.in_ok-push_block.ensures.before c.in_ok-push_block.ensures.packed c.loop-j.invariant.each;
    }

pub returns-clause-long : goal.returns-clause-long
returns-clause-long g c =
    let last = c.loop-j-test.false in
    let ended = c.chunk_count-j-end.ensures in
    let reached = c.loop-j.auto.j-end in
    let all : c.loop-j.j ≡ chunk_count (length c.args.items.now) = omega arith in
    c.loop-j.invariant.long ∙ (ap (λ n. (blocks_of c.args.widths).start n) all ∙ c.requires.joined.last)

pub returns-clause-each : goal.returns-clause-each
returns-clause-each g c j h =
    let last = c.loop-j-test.false in
    let ended = c.chunk_count-j-end.ensures in
    c.loop-j.invariant.each j (omega arith)

pub of_block-requires : goal.of_block-requires
of_block-requires g c = c.requires.names c.loop-j.j (let ended = c.chunk_count-j-end.ensures in let more = c.loop-j-test.true in omega arith)

pub push_block-requires-clause-width : goal.push_block-requires-clause-width
push_block-requires-clause-width g c =
    let more = c.loop-j-test.true in
    let ended = c.chunk_count-j-end.ensures in
    let there : c.loop-j.j < chunk_count (length c.args.items.now) = omega arith in
    let width = c.of_block.ensures ∙ sym (width_named c.args.widths c.loop-j.j (c.requires.names c.loop-j.j there)) in
    rw width (c.requires.within.narrow c.loop-j.j there)

pub push_block-requires-clause-room : goal.push_block-requires-clause-room
push_block-requires-clause-room g c =
    let more = c.loop-j-test.true in
    let ended = c.chunk_count-j-end.ensures in
    let there : c.loop-j.j < chunk_count (length c.args.items.now) = omega arith in
    let room = c.requires.within.room c.loop-j.j there in
    let so_far = c.loop-j.invariant.long in
    let width = c.of_block.ensures ∙ sym (width_named c.args.widths c.loop-j.j (c.requires.names c.loop-j.j there)) in
    omega arith

pub returns-then-size-eq0-clause-each : goal.returns-then-size-eq0-clause-each
returns-then-size-eq0-clause-each g c j h =
    let none = c.if-size-eq0.true in
    let room = c.requires.within.room j h in
    record { bits = λ r l b p q below. absurd (omega arith) }
