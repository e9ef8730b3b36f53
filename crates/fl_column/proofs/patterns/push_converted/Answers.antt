use Rattle.std.proofs.Common.{◌++◌, map, ap, sym, ◌∙◌, arith}
use Rattle.std.proofs.lemmas.List.{append-nil, take_all}
use Rattle.fl_types.specs.Integers.{read_as}
use Rattle.fl_column.proofs.PatternLaws.{values_pushed}
use Rattle.fl_column.proofs.patterns.push_converted.Goals as goal

pub loop-pattern-init : goal.loop-pattern-init
loop-pattern-init g c =
    let kept = ap (map g.T.Number.value) c.in_ok-reserve.ensures.items in
    let same = c.in_ok-reserve.ensures.len in
    let room = c.in_ok-reserve.ensures.ok in record {
      long = omega arith;
      room = omega arith;
      values = kept ∙ sym (append-nil (map g.T.Number.value c.args.values.now.items));
    }

pub loop-pattern-preserved : goal.loop-pattern-preserved
loop-pattern-preserved g c =
    let value = g.T.Number.value in
    let so_far = c.loop-pattern.invariant.long in
    let added = c.push_reserved.ensures.len in
    let room = c.loop-pattern.invariant.room in
    let kept = c.push_reserved.ensures.capacity in record {
      long = omega arith;
      room = omega arith;
      values = values_pushed value (λ w. read_as g.T.NativePType.PTYPE (g.T.Physical.FastLanes.pattern w)) c.args.patterns.now (map value c.args.values.now.items) c.push_reserved.new.self.items c.loop-pattern.values.items c.from_physical.result c.pattern-item.result c.loop-pattern.pattern-index c.loop-pattern-test.true c.pattern-item.is c.push_reserved.ensures.items c.loop-pattern.invariant.values c.from_physical.ensures;
    }

pub push_reserved-requires : goal.push_reserved-requires
push_reserved-requires g c =
    let so_far = c.loop-pattern.invariant.long in
    let room = c.loop-pattern.invariant.room in
    let more = c.loop-pattern-test.true in
    omega arith

pub returns-clause-values : goal.returns-clause-values
returns-clause-values g c =
    let start = map g.T.Number.value c.args.values.now.items in
    let read = map (λ w. read_as g.T.NativePType.PTYPE (g.T.Physical.FastLanes.pattern w)) in
    c.loop-pattern.invariant.values ∙ ap (λ ws. start ++ read ws) (take_all c.loop-pattern.pattern-index c.args.patterns.now c.loop-pattern-test.false)
