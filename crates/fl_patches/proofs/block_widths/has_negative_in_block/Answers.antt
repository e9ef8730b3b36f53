use Rattle.std.proofs.Common.{map, sym, arith}
use Rattle.fl_types.specs.Validities.{items_of}
use Rattle.fl_patches.proofs.BlockSigns.{no_value_below, none_in_block, one_in_block}
use Rattle.fl_patches.proofs.Gathers.{covered_values}
use Rattle.fl_patches.proofs.block_widths.has_negative_in_block.Goals as goal

pub returns-then-not-has_negative_value : goal.returns-then-not-has_negative_value
returns-then-not-has_negative_value g c = sym (no_value_below g.T.Number.value c.args.validity.now c.args.items.now c.args.block c.chunk_bounds-start.result.0 c.chunk_bounds-start.result.1 c.requires.covers c.chunk_bounds-start.ensures.start c.chunk_bounds-start.ensures.end (sym c.if-not-has_negative_value.ensures))

pub returns-then-is_negative_at : goal.returns-then-is_negative_at
returns-then-is_negative_at g c =
    let count = covered_values g.T.Number.value c.args.validity.now c.args.items.now c.requires.covers in
    let start = c.chunk_bounds-start.ensures.start in
    let end = c.chunk_bounds-start.ensures.end in
    sym (one_in_block (items_of c.args.validity.now (map g.T.Number.value c.args.items.now)) c.args.block c.loop-i.i (omega arith) (omega arith) (omega arith) (sym c.if-is_negative_at.ensures))

pub returns : goal.returns
returns g c =
    let start = c.chunk_bounds-start.ensures.start in
    let end = c.chunk_bounds-start.ensures.end in
    sym (none_in_block g.T.Number.value c.args.validity.now c.args.items.now c.args.block c.chunk_bounds-start.result.0 c.chunk_bounds-start.result.1 c.requires.covers start end (λ k low high. c.loop-i.invariant k low (omega arith)))
