use Rattle.std.proofs.Common.{◌≡◌, ◌+◌, ◌-◌, ◌∙◌, ap, arith, length, min, ℕ}
use Rattle.fl_scan.specs.Bounds.{block_end, block_start, is_below_at}
use Rattle.fl_scan.proofs.BoundLaws.{bound_in_block}
use Rattle.fl_scan.proofs.bounds.position_of.Goals as goal

pub returns : goal.returns
returns g c =
    let p = c.args.reader.now in
    let z = g.T.Number.value c.args.value in
    let count = c.blocks_below-count.result in
    let some = c.if-count-eq0.false in
    let from = c.places-from.result.0 in
    let to = block_end p (count - 1) in
    let n = c.below_in_block.result in
    let from_is = c.places-from.ensures.start in
    let to_is = c.places-from.ensures.end in
    let order = c.places-from.ensures.order in
    let few = c.below_in_block.ensures.few in
    let next : count - 1 + 1 ≡ count = omega arith in
    let end : to ≡ min (block_start p count) (length p.column.items) = ap (λ (k : ℕ). min (block_start p k) (length p.column.items)) next in
    bound_in_block p z count from to n c.requires.sorted (omega arith) (omega arith) c.blocks_below-count.ensures.few from_is end (omega arith) (omega arith)
    (ap (λ (i : ℕ). is_below_at z p.column i) from_is ∙ c.blocks_below-count.ensures.below (omega arith)) c.blocks_below-count.ensures.above
    (λ h. ap (λ (s : ℕ). is_below_at z p.column (s + n - 1)) from_is ∙ c.below_in_block.ensures.below h)
    (λ h. ap (λ (s : ℕ). is_below_at z p.column (s + n)) from_is ∙ c.below_in_block.ensures.above (omega arith))
