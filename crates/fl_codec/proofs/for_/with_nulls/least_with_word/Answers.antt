use Rattle.std.proofs.Common.{arith, length-take}
use Rattle.std.proofs.lemmas.List.{take_all}
use Rattle.fl_codec.specs.FoRColumns.{turned}
use Rattle.fl_codec.proofs.FullWords.{least_of_full}
use Rattle.fl_codec.proofs.WithNulls.{least_of_same}
use Rattle.fl_codec.proofs.for_.with_nulls.least_with_word.Goals as goal

pub slice_bounds-least_of_items-end : goal.slice_bounds-least_of_items-end
slice_bounds-least_of_items-end g c = let whole = c.if-items-eq-WORD.true in omega (arith, length-take 64 c.args.items.now)

pub least_of_items-requires : goal.least_of_items-requires
least_of_items-requires g c = let whole = c.if-items-eq-WORD.true in omega (arith, length-take 64 c.args.items.now)

pub returns-then-items-eq-WORD : goal.returns-then-items-eq-WORD
returns-then-items-eq-WORD g c =
    let value = g.T.Number.value in
    let whole = c.if-items-eq-WORD.true in
    least_of_same value (turned g.T.NativePType.PTYPE (value c.args.origin)) c.args.word (value c.args.seed) (value c.least_of_items.result) _ c.args.items.now (take_all 64 c.args.items.now (omega arith)) c.least_of_items.ensures

pub returns-then-word-eq-ALL_VALID : goal.returns-then-word-eq-ALL_VALID
returns-then-word-eq-ALL_VALID g c =
    let value = g.T.Number.value in
    least_of_full value (turned g.T.NativePType.PTYPE (value c.args.origin)) c.args.word (value c.args.seed) (value c.least_of_valid.result) c.args.items.now c.if-word-eq-ALL_VALID.true c.requires c.least_of_valid.ensures
