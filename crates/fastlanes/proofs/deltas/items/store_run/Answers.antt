use Rattle.std.proofs.Common.{◌≡◌, ◌+◌, ◌-◌, ◌*◌, ◌∙◌, ap, arith, length, drop, length-take, length-drop}
use Rattle.fastlanes.specs.Layout.{pattern_at}
use Rattle.fastlanes.proofs.Patterns.{part_inside, part_outside, pattern_at_drop, pattern_at_take}
use Rattle.fastlanes.proofs.deltas.items.store_run.Goals as goal

pub returns-clause-run : goal.returns-clause-run
returns-clause-run g c k h =
    let pattern = g.W.FastLanes.pattern in
    let words = c.args.turned.now in
    let from = 4 * c.args.j in
    let same = c.copy_from_slice.ensures.after in
    let long : length c.copy_from_slice.new.self ≡ 4 = let taken = length-take (from + 4 - from) (drop from words) in let rest = length-drop from words in let all = c.told-turned in let as_long = ap length same in omega arith in
    part_inside pattern c.args.items.now c.copy_from_slice.new.self _ c.args.at k (omega arith) (omega arith)
    ∙ (ap (λ ws. pattern_at pattern ws k) same ∙ (pattern_at_take pattern (drop from words) (from + 4 - from) k (omega arith) ∙ pattern_at_drop pattern words from k))

pub returns-clause-others : goal.returns-clause-others
returns-clause-others g c i away =
    let words = c.args.turned.now in
    let from = 4 * c.args.j in
    let long : length c.copy_from_slice.new.self ≡ 4 = let taken = length-take (from + 4 - from) (drop from words) in let rest = length-drop from words in let all = c.told-turned in let as_long = ap length c.copy_from_slice.ensures.after in omega arith in
    let size : c.args.at + 4 - c.args.at ≡ 4 = omega arith in
    rw size (part_outside g.W.FastLanes.pattern c.args.items.now c.copy_from_slice.new.self c.args.at 4 i (omega arith) long away)
