use Rattle.std.proofs.Common.{arith, length-take, map}
use Rattle.std.proofs.lemmas.List.{length-map, take_all}
use Rattle.fl_codec.proofs.FullWords.{slots_of_full}
use Rattle.fl_codec.proofs.for_.with_nulls.subtract_word.Goals as goal

pub slice_bounds-subtract_items-end : goal.slice_bounds-subtract_items-end
slice_bounds-subtract_items-end g c = let whole = c.if-items-eq-WORD.true in omega (arith, length-take 64 c.args.items.now)

pub subtract_items-requires-clause-few : goal.subtract_items-requires-clause-few
subtract_items-requires-clause-few g c = let whole = c.if-items-eq-WORD.true in omega (arith, length-take 64 c.args.items.now)

pub subtract_items-requires-clause-slots : goal.subtract_items-requires-clause-slots
subtract_items-requires-clause-slots g c = let whole = c.if-items-eq-WORD.true in omega (arith, length-take 64 c.args.items.now, c.requires.slots)

pub returns-then-items-eq-WORD : goal.returns-then-items-eq-WORD
returns-then-items-eq-WORD g c = let whole = c.if-items-eq-WORD.true in rw (take_all 64 c.args.items.now (omega arith)) at c.subtract_items.ensures

pub returns-then-word-eq-ALL_VALID : goal.returns-then-word-eq-ALL_VALID
returns-then-word-eq-ALL_VALID g c j h =
    let value = g.T.Number.value in
    let items = map value c.args.items.now in
    let long = length-map c.args.items.now value in
    slots_of_full g.T.NativePType.PTYPE (value c.args.reference) c.args.word items (map value c.subtract.new.slots) j c.if-word-eq-ALL_VALID.true (omega (arith, c.requires.few)) c.subtract.ensures (omega arith)
