use Rattle.std.proofs.Common.{◌+◌, ◌∙◌, ap, get_or}
use Rattle.fl_column.specs.Numbers.{numbers}
use Rattle.fl_array.proofs.TypedItems.{block_between}
use Rattle.fl_array.proofs.bitpacking.BitPackedArray.extent_by_plain.Goals as goal

pub between-requires-clause-first : goal.between-requires-clause-first
between-requires-clause-first c =
    let block = c.block_of-j.ensures.block in
    let start = c.number_at-start.ensures ∙ ap (λ j. get_or (numbers c.args.plain.now) j 0) block in
    let end = c.number_at-end.ensures ∙ ap (λ j. get_or (numbers c.args.plain.now) (j + 1) 0) block in
    (block_between c.args.self.now c.args.boundaries.now c.args.plain.now c.args.i _ _ _ c.prove_well_formed.ensures c.requires.same c.requires.plain c.requires.range c.number_at-first.ensures start end).low

pub between-requires-clause-order : goal.between-requires-clause-order
between-requires-clause-order c =
    let block = c.block_of-j.ensures.block in
    let start = c.number_at-start.ensures ∙ ap (λ j. get_or (numbers c.args.plain.now) j 0) block in
    let end = c.number_at-end.ensures ∙ ap (λ j. get_or (numbers c.args.plain.now) (j + 1) 0) block in
    (block_between c.args.self.now c.args.boundaries.now c.args.plain.now c.args.i _ _ _ c.prove_well_formed.ensures c.requires.same c.requires.plain c.requires.range c.number_at-first.ensures start end).order

pub returns : goal.returns
returns c =
    let block = c.block_of-j.ensures.block in
    let start = c.number_at-start.ensures ∙ ap (λ j. get_or (numbers c.args.plain.now) j 0) block in
    let end = c.number_at-end.ensures ∙ ap (λ j. get_or (numbers c.args.plain.now) (j + 1) 0) block in
    rw c.between.ensures (block_between c.args.self.now c.args.boundaries.now c.args.plain.now c.args.i _ _ _ c.prove_well_formed.ensures c.requires.same c.requires.plain c.requires.range c.number_at-first.ensures start end).extent
