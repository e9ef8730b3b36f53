use Rattle.std.proofs.Common.{◌≡◌, ◌+◌, ◌*◌, ◌-◌, ◌<◌, ◌≤◌, ap, arith, drop, length, map, rules, sym, take}
use Rattle.std.proofs.lemmas.List.{length-map}
use Rattle.std.proofs.Math.Path.{subst}
use Rattle.fl_types.specs.Bits.{between}
use Rattle.fl_scan.proofs.MaskLaws.{prefix_kept, words_more}
use Rattle.fl_scan.proofs.plain.add_valid.Goals as goal

pub overflow_add-start : goal.overflow_add-start
overflow_add-start g c =
    let more = c.loop-k-test.true in
    let words = c.div_ceil-k-end.ensures in
    let room = c.requires in
    let len = c.len-len.ensures in
    search (rules, arith)

pub loop-k-preserved : goal.loop-k-preserved
loop-k-preserved g c =
    let value = g.T.Number.value in
    let xs = c.args.items.now in
    let k = c.loop-k.k in
    let count = c.min-count.result in
    let word = c.word_from-word.result in
    let more = c.loop-k-test.true in
    let words = c.div_ceil-k-end.ensures in
    let inside : 64 * k < length xs = omega arith in
    let size : 64 * k + count - 64 * k ≡ count = omega arith in
    let next = words_more value xs (take (64 * k + count - 64 * k) (drop (64 * k) xs)) c.args.bits.now c.args.start k count word c.requires inside c.min-count.ensures (ap (λ n. take n (drop (64 * k) xs)) size) c.word_from-word.ensures.bits in
    subst (λ ys. g.F.Fold.Leads c.args.fold.now ys c.add_valid_word.new.fold) (sym next) (g.met.F.Fold.joined c.args.fold.now c.loop-k.fold c.add_valid_word.new.fold _ _ c.loop-k.invariant c.in_ok-add_valid_word.ensures.gathered)

pub returns-clause-gathered : goal.returns-clause-gathered
returns-clause-gathered g c =
    let value = g.T.Number.value in
    let zs = map value c.args.items.now in
    let long = length-map c.args.items.now value in
    let ended = c.loop-k-test.false in
    let words = c.div_ceil-k-end.ensures in
    let past : length zs ≤ 64 * c.loop-k.k = omega arith in
    subst (λ ys. g.F.Fold.Leads c.args.fold.now ys c.loop-k.fold) (prefix_kept (between c.args.start (c.args.start + length c.args.items.now) c.args.bits.now) zs (64 * c.loop-k.k) past) c.loop-k.invariant
