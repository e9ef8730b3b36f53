use Rattle.std.proofs.Common.{◌≤◌, ◌+◌, ◌-◌, ◌*◌, ◌++◌, Ok, length, drop, vec_capacity, ap, sym, ◌∙◌, arith}
use Rattle.std.proofs.lemmas.List.{length-take, length-drop}
use Rattle.fl_types.specs.Bits.{true_count}
use Rattle.fl_column.proofs.FilterLaws.{Stands, all_ones, filter_end, item_there, word_items, word_room}
use Rattle.fl_column.proofs.selection.filtered.items_set.Goals as goal

pub push_set-requires-clause-items : goal.push_set-requires-clause-items
push_set-requires-clause-items g c j set =
    let xs = c.args.items.now in
    let at = 64 * c.loop-k.k in
    let count = c.min.ensures in
    let there = item_there c.args.bits.now c.word-word.result at (at + c.min.result) (length xs) (omega arith) c.requires (omega arith) c.word-word.ensures j set in
    omega (arith, there, length-take (at + c.min.result - at) (drop at xs), length-drop at xs)

pub push_set-requires-clause-room : goal.push_set-requires-clause-room
push_set-requires-clause-room g c =
    let stands : Stands c.args.bits.now c.args.items.now c.loop-k.taken.items c.loop-k.run c.loop-k.k c.min.result c.word-word.result = record {
      even = c.requires;
      order = c.loop-k.invariant.order;
      within = omega arith;
      few = omega arith;
      set = c.loop-k.invariant.set;
      bit = c.word-word.ensures;
      whole = c.loop-k.invariant.items;
    } in
    let most : true_count c.args.bits.now ≤ vec_capacity c.extend_from_slice.new.self = omega (arith, c.loop-k.invariant.room, c.in_ok-extend_from_slice.ensures.capacity) in
    word_room c.args.bits.now c.args.items.now c.loop-k.taken.items c.extend_from_slice.new.self.items c.loop-k.run c.loop-k.k c.min.result c.word-word.result _ _ stands most c.extend_from_slice.new.self.ok.0 c.in_ok-extend_from_slice.ensures.items

pub loop-k-preserved-then-word : goal.loop-k-preserved-then-word
loop-k-preserved-then-word g c = record {
  order = omega arith;
  within = c.loop-k.invariant.within;
  set = all_ones c.args.bits.now (length c.args.items.now) c.loop-k.k c.word-word.result c.loop-k.run (omega arith) c.word-word.ensures c.loop-k.invariant.set;
  items = c.loop-k.invariant.items;
  room = c.loop-k.invariant.room;
}

pub loop-k-preserved : goal.loop-k-preserved
loop-k-preserved g c =
    let count = c.min.ensures in
    let stands : Stands c.args.bits.now c.args.items.now c.loop-k.taken.items c.loop-k.run c.loop-k.k c.min.result c.word-word.result = record {
      even = c.requires;
      order = c.loop-k.invariant.order;
      within = omega arith;
      few = omega arith;
      set = c.loop-k.invariant.set;
      bit = c.word-word.ensures;
      whole = c.loop-k.invariant.items;
    } in
    record {
      order = omega arith;
      within = omega arith;
      set = λ i from h inside. absurd (omega arith);
      items = word_items c.args.bits.now c.args.items.now c.loop-k.taken.items c.extend_from_slice.new.self.items c.push_set.new.taken.items c.loop-k.run c.loop-k.k c.min.result c.word-word.result stands c.in_ok-extend_from_slice.ensures.items c.push_set.ensures.items;
      room = omega (arith, c.loop-k.invariant.room, c.in_ok-extend_from_slice.ensures.capacity, c.push_set.ensures.capacity);
    }

pub returns : goal.returns
returns g c =
    let xs = c.args.items.now in
    let bits = c.args.bits.now in
    let run = c.loop-k.run in
    let taken = c.loop-k.taken.items in
    let past = c.loop-k-test.false in
    let words = c.div_ceil-k-end.ensures in
    ap Ok (sym (c.in_ok-extend_from_slice-2.ensures.items ∙ ap (λ l. taken ++ l) (sym (filter_end bits xs run (λ i from h. c.loop-k.invariant.set i from (omega arith) h))) ∙ c.loop-k.invariant.items))
