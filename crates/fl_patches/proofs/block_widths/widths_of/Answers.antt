use Rattle.std.proofs.Common.{◌≡◌, ◌≤◌, ℕ, ◌+◌, ◌*◌, ◌∙◌, false, true, length, map, sym, refl, arith}
use Rattle.std.specs.List.{list_any}
use Rattle.std.proofs.lemmas.List.{length-take}
use Rattle.fl_types.specs.Bits.{between}
use Rattle.fl_types.specs.Validities.{items_of}
use Rattle.fl_patches.proofs.BitCounts.{type_most}
use Rattle.fl_patches.proofs.Gathers.{covered_values}
use Rattle.fl_patches.proofs.LeastTotals.{chosen_after, exceptions_few, exceptions_more, exceptions_none, exceptions_to, widths_more, widths_none}
use Rattle.fl_types.proofs.Refused.{no_memory}
use Rattle.fl_patches.specs.Exceptions.{is_negative}
use Rattle.fl_patches.proofs.BlockSigns.{block_signs, negative_in_block, none_more, none_of_all}
use Rattle.fl_patches.proofs.block_widths.widths_of.Goals as goal

pub loop-block-init : goal.loop-block-init
loop-block-init g c =
    let items = items_of c.args.validity.now (map g.T.Number.value c.args.items.now) in
    record {
      best = c.in_ok-widths.ensures.items ∙ widths_none g.T.NativePType.PTYPE items;
      counted = exceptions_none g.T.NativePType.PTYPE items;
      none = refl;
      room = omega (arith, type_most g.T.NativePType.PTYPE, length-take {A = ℕ});
    }

pub overflow_add-total : goal.overflow_add-total
overflow_add-total g c =
    let t = g.T.NativePType.PTYPE in
    let items = items_of c.args.validity.now (map g.T.Number.value c.args.items.now) in
    let count : length items ≡ length c.args.items.now = covered_values g.T.Number.value c.args.validity.now c.args.items.now c.requires.covers in
    let next : c.loop-block.total + c.choose_width-width.result.1 ≡ exceptions_to t items (c.loop-block.block + 1) = exceptions_more t items c.loop-block.block c.choose_width-width.result.0 c.loop-block.total c.choose_width-width.result.1 (omega arith) c.choose_width-width.ensures.width c.choose_width-width.ensures.exceptions c.loop-block.invariant.counted in
    let few : exceptions_to t items (c.loop-block.block + 1) ≤ length items = exceptions_few t items (c.loop-block.block + 1) in
    omega arith

pub loop-block-preserved : goal.loop-block-preserved
loop-block-preserved g c =
    let t = g.T.NativePType.PTYPE in
    let items = items_of c.args.validity.now (map g.T.Number.value c.args.items.now) in
    let block = c.loop-block.block in
    let count : length items ≡ length c.args.items.now = covered_values g.T.Number.value c.args.validity.now c.args.items.now c.requires.covers in
    let counted = block_signs t items block c.choose_width-width.new.entries c.choose_width-width.ensures.histogram c.requires.fit in
    let none : list_any is_negative (between (1024 * block) (1024 * (block + 1)) items) ≡ false = sym counted ∙ sym (rw c.PTYPE.ensures at c.if-counts_signs.ensures) in
    record {
      best = widths_more t items block c.choose_width-width.result.0 c.loop-block.widths.items c.push.new.self.items c.choose_width-width.ensures.width c.in_ok-push.ensures.items c.loop-block.invariant.best;
      counted = exceptions_more t items block c.choose_width-width.result.0 c.loop-block.total c.choose_width-width.result.1 (omega arith) c.choose_width-width.ensures.width c.choose_width-width.ensures.exceptions c.loop-block.invariant.counted;
      none = none_more items block c.loop-block.invariant.none none;
      room = omega (arith, c.loop-block.invariant.room);
    }

pub returns : goal.returns
returns g c =
    let items = items_of c.args.validity.now (map g.T.Number.value c.args.items.now) in
    let count : length items ≡ length c.args.items.now = covered_values g.T.Number.value c.args.validity.now c.args.items.now c.requires.covers in
    let none : list_any is_negative items ≡ false = none_of_all items c.loop-block.block (omega arith) c.loop-block.invariant.none in
    rw (none, chosen_after g.T.NativePType.PTYPE items c.loop-block.block c.loop-block.widths.items c.loop-block.total (omega arith) c.loop-block.invariant.best c.loop-block.invariant.counted) refl

pub returns-then-counts_signs : goal.returns-then-counts_signs
returns-then-counts_signs g c =
    let t = g.T.NativePType.PTYPE in
    let items = items_of c.args.validity.now (map g.T.Number.value c.args.items.now) in
    let block = c.loop-block.block in
    let counted = block_signs t items block c.choose_width-width.new.entries c.choose_width-width.ensures.histogram c.requires.fit in
    let here : list_any is_negative (between (1024 * block) (1024 * (block + 1)) items) ≡ true = sym counted ∙ sym (rw c.PTYPE.ensures at c.if-counts_signs.ensures) in
    rw (negative_in_block items block here) refl

pub returns-in_err-widths : goal.returns-in_err-widths
returns-in_err-widths g c = no_memory _ c.from_residual.result _ c.from_residual.ensures.1

pub returns-in_err-push : goal.returns-in_err-push
returns-in_err-push g c = no_memory _ c.from_residual-in_err-push.result _ c.from_residual-in_err-push.ensures.1
