use Rattle.std.proofs.Common.{◌≡◌, ◌∙◌, map, unsigned_abs, ap, arith}
use Rattle.fl_column.specs.Numbers.{numbers, numbers_by}
use Rattle.fl_patches.proofs.Parts.{sound}
use Rattle.fl_patches.proofs.Slices.{before_in_order, before_within}
use Rattle.fl_bitpacking.proofs.patching.ranges.count_typed.Goals as goal

pub count_from-requires-clause-start : goal.count_from-requires-clause-start
count_from-requires-clause-start g c =
    let p = c.args.patches.now in
    let up = before_in_order p c.args.from c.args.to (sound p c.indices.ensures.accepted) c.requires.order in
    let read = c.as_slice-indices.ensures ∙ ap (λ q. q.slots) c.indices.ensures.indices in
    let same : numbers_by g.I.Number.value c.as_slice-indices.result.now ≡ numbers p.indices = ap (map unsigned_abs) read in
    let first = c.requires.before in
    rw (same, c.offset.ensures) (omega arith)

pub returns-clause-order : goal.returns-clause-order
returns-clause-order g c =
    let p = c.args.patches.now in
    let up = before_in_order p c.args.from c.args.to (sound p c.indices.ensures.accepted) c.requires.order in
    let read = c.as_slice-indices.ensures ∙ ap (λ q. q.slots) c.indices.ensures.indices in
    let same : numbers_by g.I.Number.value c.as_slice-indices.result.now ≡ numbers p.indices = ap (map unsigned_abs) read in
    let counted = rw (same, c.offset.ensures) at c.count_from.ensures in
    let first = c.requires.before in
    omega arith

pub returns-clause-within : goal.returns-clause-within
returns-clause-within g c =
    let p = c.args.patches.now in
    let most = before_within p c.args.to in
    let read = c.as_slice-indices.ensures ∙ ap (λ q. q.slots) c.indices.ensures.indices in
    let same : numbers_by g.I.Number.value c.as_slice-indices.result.now ≡ numbers p.indices = ap (map unsigned_abs) read in
    let counted = rw (same, c.offset.ensures) at c.count_from.ensures in
    omega arith
