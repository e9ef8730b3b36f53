use Rattle.std.proofs.Common.{arith, length-take}
use Rattle.std.proofs.lemmas.List.{take_all}
use Rattle.fl_patches.proofs.masking.write_word.Goals as goal

pub slice_bounds-write_items-end : goal.slice_bounds-write_items-end
slice_bounds-write_items-end g c = let whole = c.if-items-eq-WORD.true in omega (arith, length-take 64 c.args.items.now)

pub write_items-requires-clause-few : goal.write_items-requires-clause-few
write_items-requires-clause-few g c = let whole = c.if-items-eq-WORD.true in omega (arith, length-take 64 c.args.items.now)

pub write_items-requires-clause-even : goal.write_items-requires-clause-even
write_items-requires-clause-even g c = let whole = c.if-items-eq-WORD.true in omega (arith, length-take 64 c.args.items.now, c.requires.even)

pub returns-then-items-eq-WORD : goal.returns-then-items-eq-WORD
returns-then-items-eq-WORD g c = let whole = c.if-items-eq-WORD.true in rw (take_all 64 c.args.items.now (omega arith)) at c.write_items.ensures
