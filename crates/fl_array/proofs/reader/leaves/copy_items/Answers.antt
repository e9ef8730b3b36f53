use Rattle.std.proofs.Common.{◌≡◌, ◌+◌, ◌-◌, ◌≤◌, ◌∙◌, ap, arith, drop, length, take, ℕ}
use Rattle.fl_array.proofs.ReadLaws.{slots_shown}
use Rattle.fl_array.proofs.reader.leaves.copy_items.Goals as goal

pub returns : goal.returns
returns g c =
    let p = c.args.plain.now in
    let slots = c.as_slice-slots.result.now in
    let n = length c.args.items.now in
    let size : c.args.start + n - c.args.start ≡ n = omega arith in
    let room : c.args.start + n ≤ length p.slots = let items = c.len-len.ensures.items in let slots = c.len-len.ensures.slots in omega (arith, c.requires.range) in
    slots_shown g.T.Number.value p slots c.copy_from_slice.new.self c.args.start n c.validity-validity.ensures.covers c.as_slice-slots.ensures room (c.copy_from_slice.ensures.after ∙ ap (λ (k : ℕ). take k (drop c.args.start slots)) size)
