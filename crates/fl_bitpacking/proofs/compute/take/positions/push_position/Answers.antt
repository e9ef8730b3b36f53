use Rattle.std.proofs.Common.{sym}
use Rattle.fl_bitpacking.proofs.TakenLaws.{position_added, position_skipped}
use Rattle.fl_bitpacking.proofs.compute.take.positions.push_position.Goals as goal

pub returns-then-not-is_valid-clause-more : goal.returns-then-not-is_valid-clause-more
returns-then-not-is_valid-clause-more g c = position_skipped g.I.Number.value c.args.validity.now c.args.slots.now c.args.len c.args.k c.args.positions.now.items c.requires.covers c.requires.range (sym c.if-not-is_valid.ensures) c.requires.so_far

pub returns-clause-more : goal.returns-clause-more
returns-clause-more g c = position_added g.I.Number.value c.args.validity.now c.args.slots.now c.args.len c.args.k c.args.positions.now.items c.push.new.self.items c.index-slots-k.result c.in-Some.position c.requires.covers c.requires.range (sym c.if-not-is_valid.ensures) c.index-slots-k.is c.in-Some.ensures.0 c.in-Some.ensures.1 c.in_ok-push.ensures.items c.requires.so_far
