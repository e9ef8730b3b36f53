use Rattle.std.proofs.Common.{◌≡◌, ◌≤◌, ◌+◌, ◌*◌, length, map, min, arith}
use Rattle.std.proofs.lemmas.List.{append-nil}
use Rattle.fl_types.specs.Validities.{items_of}
use Rattle.fl_patches.specs.Exceptions.{bit_count}
use Rattle.fl_patches.proofs.Gathers.{covered_values, gathered_few, gathered_on}
use Rattle.fl_patches.proofs.Histograms.{between_empty}
use Rattle.fl_types.proofs.Refused.{no_value}
use Rattle.fl_patches.proofs.gathering.Exceptions.push_part.Goals as goal

pub returns-then-bit_count-width : goal.returns-then-bit_count-width
returns-then-bit_count-width g c = λ before len so.
    let few : bit_count c.greatest_of.result ≤ c.args.width = omega (arith, c.bit_count.ensures, c.if-bit_count-width.true) in
    gathered_few g.T.NativePType.PTYPE g.T.Number.value c.args.validity.now c.args.items.now c.args.start c.args.end c.args.width c.greatest_of.result c.args.self.now.places.items (map g.T.Number.value c.args.self.now.values.items) before
    c.requires.covers c.requires.order c.requires.range c.greatest_of.type_inv c.greatest_of.ensures few so

pub loop-k-init : goal.loop-k-init
loop-k-init g c = λ before len so.
    let items = items_of c.args.validity.now (map g.T.Number.value c.args.items.now) in
    let here : min (c.args.start + 64 * 0) c.args.end ≡ c.args.start = omega arith in
    rw (here, between_empty items c.args.start, append-nil before) so

pub loop-k-preserved : goal.loop-k-preserved
loop-k-preserved g c = λ before len so.
    let t = g.T.NativePType.PTYPE in
    let value = g.T.Number.value in
    let items = items_of c.args.validity.now (map value c.args.items.now) in
    let count : length items ≡ length c.args.items.now = covered_values value c.args.validity.now c.args.items.now c.requires.covers in
    let from = c.args.start + 64 * c.loop-k.k in
    let to = from + c.min.result in
    let least = c.min.ensures in
    let begins : min (c.args.start + 64 * c.loop-k.k) c.args.end ≡ c.args.start + 64 * c.loop-k.k = omega arith in
    let ends : min (c.args.start + 64 * (c.loop-k.k + 1)) c.args.end ≡ c.args.start + 64 * c.loop-k.k + c.min.result = omega arith in
    let had = rw begins at (c.loop-k.invariant before len so) in
    rw ends (gathered_on t c.args.width items c.args.start from to c.loop-k.self.places.items c.push_group.new.self.places.items (map value c.loop-k.self.values.items) (map value c.push_group.new.self.values.items) before
    (omega arith) (omega arith) (omega arith) len c.in_ok-push_group.ensures had)

pub returns : goal.returns
returns g c = λ before len so.
    let all : min (c.args.start + 64 * c.loop-k.k) c.args.end ≡ c.args.end = omega arith in
    rw all at (c.loop-k.invariant before len so)

pub returns-in_err-push_group : goal.returns-in_err-push_group
returns-in_err-push_group g c = no_value _ _ c.from_residual.result c.from_residual.ensures.1
