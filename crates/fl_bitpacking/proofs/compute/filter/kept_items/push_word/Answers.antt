use Rattle.std.proofs.Common.{vec_capacity, vec_len, arith}
use Rattle.fl_bitpacking.proofs.FilteredLaws.{all_kept, extended, room_for}
use Rattle.fl_bitpacking.proofs.compute.filter.kept_items.push_word.Goals as goal

pub push_set-requires-clause-room : goal.push_set-requires-clause-room
push_set-requires-clause-room g c =
    room_for c.args.word (vec_len c.reserve.new.self) (vec_capacity c.reserve.new.self) c.args.items.now (omega arith) (omega (arith, c.in_ok-reserve.ensures.ok, c.in_ok-reserve.ensures.len))

pub returns-then-word-eq18446744073709551615 : goal.returns-then-word-eq18446744073709551615
returns-then-word-eq18446744073709551615 g c =
    extended c.extend_from_slice.result c.extend_from_slice.new.self.items c.args.taken.now.items c.args.items.now _ (all_kept c.args.word c.args.items.now c.if-word-eq18446744073709551615.true c.requires.count) c.extend_from_slice.ensures.items
