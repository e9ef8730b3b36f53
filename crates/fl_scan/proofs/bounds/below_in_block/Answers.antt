use Rattle.std.proofs.Common.{◌≡◌, ◌+◌, ◌-◌, ◌∙◌, ap, arith, length, length-take, sym, ℕ}
use Rattle.fl_scan.specs.Bounds.{is_below_at}
use Rattle.fl_scan.proofs.bounds.below_in_block.Goals as goal

pub returns : goal.returns
returns g c =
    let p = c.args.reader.now in
    let z = g.T.Number.value c.args.value in
    let from = c.places-from.result.0 in
    let to = c.places-from.result.1 in
    let n = c.items_below.result in
    let from_is = c.places-from.ensures.start in
    let to_is = c.places-from.ensures.end in
    let order = c.places-from.ensures.order in
    let taken = length-take (to - from) c.args.scratch.now in
    let kept = c.read.auto.items in
    let long : length c.read.new.items ≡ to - from = omega arith in
    let few = c.items_below.ensures.few in
    record {
      few = omega arith;
      below = λ h. ap (λ (s : ℕ). is_below_at z p.column (s + n - 1)) (sym from_is) ∙ c.items_below.ensures.below h;
      above = λ h. ap (λ (s : ℕ). is_below_at z p.column (s + n)) (sym from_is) ∙ c.items_below.ensures.above (omega arith);
    }
