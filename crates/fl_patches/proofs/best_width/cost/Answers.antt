use Rattle.std.proofs.Common.{◌*◌, ◌^◌, ◌≤◌, arith, rules}
use Rattle.std.proofs.lemmas.Nat.{mul-le}
use Rattle.fl_patches.proofs.best_width.cost.Goals as goal

pub overflow_mul-result : goal.overflow_mul-result
overflow_mul-result c = let extra : c.args.each * c.args.above ≤ 12 * 2 ^ 72 = mul-le _ _ _ _ c.requires.each c.requires.above in omega arith

pub overflow_add-result : goal.overflow_add-result
overflow_add-result c =
    let extra : c.args.each * c.args.above ≤ 12 * 2 ^ 72 = mul-le _ _ _ _ c.requires.each c.requires.above in
    let packed : c.args.width * c.args.count ≤ 255 * 2 ^ 72 = mul-le _ _ _ _ c.requires.width c.requires.count in
    omega (arith, c.div_ceil.ensures)

pub returns : goal.returns
returns c = search rules
