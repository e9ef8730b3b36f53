use Rattle.std.proofs.Common.{◌≡◌, ◌<◌, length, map, refl, arith, ap, sym, ◌∙◌}
use Rattle.fl_types.specs.Validities.{items_of}
use Rattle.fl_patches.specs.Widths.{width_at}
use Rattle.fl_patches.proofs.Gathers.{covered_values, place_in_block}
use Rattle.fl_bitpacking.proofs.RefusedNegatives.{memory_unless, refused_first, refused_here, refused_more, refused_none}
use Rattle.fl_types.specs.Integers.{bits_of_type, lanes_of_type}
use Rattle.fl_bitpacking.proofs.Natives.{word_width}
use Rattle.fl_column.specs.Chunks.{chunk_count}
use Rattle.fl_bitpacking.specs.Blocks.{blocks_of}
use Rattle.fl_column.proofs.ChunkLaws.{chunk_is_next}
use Rattle.fl_bitpacking.proofs.Bounds.{width_named}
use Rattle.fl_bitpacking.proofs.Joined.{packed_more}
use Rattle.fl_bitpacking.proofs.bitpack_compress.patched_packing.pack_blocks.Goals as goal

pub loop-j-preserved : goal.loop-j-preserved
loop-j-preserved g c =
    let more = c.loop-j-test.true in
    let ended = c.chunk_count-blocks.ensures in
    let so_far = c.loop-j.invariant.long in
    let added = c.in_ok-push_block.ensures.long in
    let there : c.loop-j.j < chunk_count (length c.args.items.now) = omega arith in
    let width = c.of_block-width.ensures ∙ sym (width_named c.args.widths c.loop-j.j (c.requires.names c.loop-j.j there)) in
    let next = c.requires.joined.next c.loop-j.j (omega arith) in
    record {
      long = omega arith;
      each = packed_more g.T.Number.value g.T.NativePType.PTYPE (bits_of_type g.T.NativePType.PTYPE) (lanes_of_type g.T.NativePType.PTYPE) (blocks_of c.args.widths) c.args.items.now c.chunk_of.result.now c.loop-j.bytes.items c.push_block.new.bytes.items c.loop-j.j (length c.loop-j.bytes.items) _ _ _ (word_width g.T.NativePType.PTYPE) c.requires.joined (omega arith)
          so_far width (c.chunk_of.ensures.items ∙ chunk_is_next c.loop-j.j c.args.items.now) c.in_ok-push_block.ensures.before c.in_ok-push_block.ensures.packed c.loop-j.invariant.each;
      exceptions = c.in_ok-push_block-2.ensures (width_at c.args.widths) (λ i low high. place_in_block c.args.widths c.loop-j.j c.of_block-width.result i c.of_block-width.ensures low high) c.loop-j.invariant.exceptions;
      none = refused_more c.args.refuses_negative (items_of c.args.validity.now (map g.T.Number.value c.args.items.now)) c.loop-j.j c.loop-j.invariant.none (sym c.if-is_refused.ensures);
    }

pub returns-clause-long : goal.returns-clause-long
returns-clause-long g c =
    let last = c.loop-j-test.false in
    let ended = c.chunk_count-blocks.ensures in
    let reached = c.loop-j.auto.j-end in
    let all : c.loop-j.j ≡ chunk_count (length c.args.items.now) = omega arith in
    c.loop-j.invariant.long ∙ (ap (λ n. (blocks_of c.args.widths).start n) all ∙ c.requires.joined.last)

pub returns-clause-each : goal.returns-clause-each
returns-clause-each g c j h =
    let last = c.loop-j-test.false in
    let ended = c.chunk_count-blocks.ensures in
    c.loop-j.invariant.each j (omega arith)

pub of_block-width-requires : goal.of_block-width-requires
of_block-width-requires g c = c.requires.names c.loop-j.j (let ended = c.chunk_count-blocks.ensures in let more = c.loop-j-test.true in omega arith)

pub push_block-requires-clause-width : goal.push_block-requires-clause-width
push_block-requires-clause-width g c =
    let more = c.loop-j-test.true in
    let ended = c.chunk_count-blocks.ensures in
    let there : c.loop-j.j < chunk_count (length c.args.items.now) = omega arith in
    let width = c.of_block-width.ensures ∙ sym (width_named c.args.widths c.loop-j.j (c.requires.names c.loop-j.j there)) in
    rw width (c.requires.within.narrow c.loop-j.j there)

pub push_block-requires-clause-room : goal.push_block-requires-clause-room
push_block-requires-clause-room g c =
    let more = c.loop-j-test.true in
    let ended = c.chunk_count-blocks.ensures in
    let there : c.loop-j.j < chunk_count (length c.args.items.now) = omega arith in
    let room = c.requires.within.room c.loop-j.j there in
    let so_far = c.loop-j.invariant.long in
    let width = c.of_block-width.ensures ∙ sym (width_named c.args.widths c.loop-j.j (c.requires.names c.loop-j.j there)) in
    omega arith

pub loop-j-init : goal.loop-j-init
loop-j-init g c =
    let none : length c.in_ok-bytes.bytes.items ≡ 0 = omega (arith, ap length c.in_ok-bytes.ensures.items) in
    record {
      long = none ∙ sym c.requires.joined.first;
      each = λ k h. absurd (omega arith);
      exceptions = c.in_ok-exceptions.ensures _;
      none = refused_first c.args.refuses_negative (items_of c.args.validity.now (map g.T.Number.value c.args.items.now));
    }

pub returns-then-is_refused-clause-refusal : goal.returns-then-is_refused-clause-refusal
returns-then-is_refused-clause-refusal g c =
    rw (refused_here c.args.refuses_negative (items_of c.args.validity.now (map g.T.Number.value c.args.items.now)) c.loop-j.j (sym c.if-is_refused.ensures)) (λ other. refl)

pub returns-clause-refusal : goal.returns-clause-refusal
returns-clause-refusal g c =
    let last = c.loop-j-test.false in
    let ended = c.chunk_count-blocks.ensures in
    let count = covered_values g.T.Number.value c.args.validity.now c.args.items.now c.requires.covers in
    rw (refused_none c.args.refuses_negative (items_of c.args.validity.now (map g.T.Number.value c.args.items.now)) c.loop-j.j (omega arith) c.loop-j.invariant.none) tt

pub returns-clause-exceptions : goal.returns-clause-exceptions
returns-clause-exceptions g c =
    let last = c.loop-j-test.false in
    let ended = c.chunk_count-blocks.ensures in
    let all : c.loop-j.j ≡ chunk_count (length c.args.items.now) = omega arith in
    rw all at c.loop-j.invariant.exceptions

pub returns-in_err-push_block-2-clause-refusal : goal.returns-in_err-push_block-2-clause-refusal
returns-in_err-push_block-2-clause-refusal g c = memory_unless _ c.from_residual-in_err-push_block-2.result c.from_residual-in_err-push_block-2.ensures.1
