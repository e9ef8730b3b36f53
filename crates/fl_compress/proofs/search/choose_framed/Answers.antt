use Rattle.std.proofs.Common.{◌-◌, arith, refl, sym, ◌∙◌}
use Rattle.fl_array.proofs.EncodedRLE.{ok_is}
use Rattle.fl_encode.specs.SchemeShapes.{shape}
use Rattle.fl_compress.specs.Choices.{chosen, chosen_in, part_of}
use Rattle.fl_compress.proofs.AnswerLaws.{alike_choice, framed_choice, free_choice, free_framed, packed_choice, unframed_choice}
use Rattle.fl_compress.proofs.FewerLevels.{packed_costs}
use Rattle.fl_compress.proofs.search.choose_framed.Goals as goal

pub are_orders_one-requires : goal.are_orders_one-requires
are_orders_one-requires c = sym (ok_is _ _ c.in_ok-statistics.ensures)

pub returns-then-whole-eq0-clause-choice : goal.returns-then-whole-eq0-clause-choice
returns-then-whole-eq0-clause-choice c =
    let q = part_of c.args.part c.args.array.now in
    free_framed c.args.limits.now c.args.depth q (shape c.in_ok-whole.whole.scheme) c.in_ok-whole.whole.bytes
    (free_choice c.args.limits.now c.args.depth q (shape c.in_ok-whole.whole.scheme) c.in_ok-whole.whole.bytes (sym (ok_is _ _ c.in_ok-whole.ensures.choice)) c.if-whole-eq0.true) c.if-whole-eq0.true

pub returns-then-packed-eq0-clause-choice : goal.returns-then-packed-eq0-clause-choice
returns-then-packed-eq0-clause-choice c =
    let q = part_of c.args.part c.args.array.now in
    let packed = packed_choice c.args.limits.now c.args.depth q (chosen c.in_ok-whole.whole) (chosen_in c.choose_packing-packing.result) (chosen c.cheaper-packed.result) (sym (ok_is _ _ c.in_ok-whole.ensures.choice)) (c.choose_packing-packing.ensures q.slots refl (sym (ok_is _ _ c.in_ok-statistics.ensures))) c.cheaper-packed.ensures.choice in
    free_framed c.args.limits.now c.args.depth q (shape c.cheaper-packed.result.scheme) c.cheaper-packed.result.bytes packed c.if-packed-eq0.true

pub returns-then-not-has_level-clause-choice : goal.returns-then-not-has_level-clause-choice
returns-then-not-has_level-clause-choice c =
    let q = part_of c.args.part c.args.array.now in
    let packed = packed_choice c.args.limits.now c.args.depth q (chosen c.in_ok-whole.whole) (chosen_in c.choose_packing-packing.result) (chosen c.cheaper-packed.result) (sym (ok_is _ _ c.in_ok-whole.ensures.choice)) (c.choose_packing-packing.ensures q.slots refl (sym (ok_is _ _ c.in_ok-statistics.ensures))) c.cheaper-packed.ensures.choice in
    unframed_choice c.args.limits.now c.args.depth q (chosen c.cheaper-packed.result) (sym c.has_level.ensures ∙ c.if-not-has_level.true) packed

pub returns-then-are_orders_one-clause-choice : goal.returns-then-are_orders_one-clause-choice
returns-then-are_orders_one-clause-choice c =
    let q = part_of c.args.part c.args.array.now in
    let packed = packed_choice c.args.limits.now c.args.depth q (chosen c.in_ok-whole.whole) (chosen_in c.choose_packing-packing.result) (chosen c.cheaper-packed.result) (sym (ok_is _ _ c.in_ok-whole.ensures.choice)) (c.choose_packing-packing.ensures q.slots refl (sym (ok_is _ _ c.in_ok-statistics.ensures))) c.cheaper-packed.ensures.choice in
    alike_choice c.args.limits.now c.args.depth q (chosen c.cheaper-packed.result) (chosen c.in_ok-natural.natural) (sym c.has_level.ensures ∙ c.if-not-has_level.false) packed c.in_ok-natural.ensures.choice
    (record { one = c.are_orders_one.ensures.one c.if-are_orders_one.true; many = c.are_orders_one.ensures.many c.if-are_orders_one.true })

pub returns-clause-choice : goal.returns-clause-choice
returns-clause-choice c =
    let q = part_of c.args.part c.args.array.now in
    let packed = packed_choice c.args.limits.now c.args.depth q (chosen c.in_ok-whole.whole) (chosen_in c.choose_packing-packing.result) (chosen c.cheaper-packed.result) (sym (ok_is _ _ c.in_ok-whole.ensures.choice)) (c.choose_packing-packing.ensures q.slots refl (sym (ok_is _ _ c.in_ok-statistics.ensures))) c.cheaper-packed.ensures.choice in
    framed_choice c.args.limits.now c.args.depth q (chosen c.cheaper-packed.result) (chosen c.in_ok-natural.natural) c.choose_frames-2.result (sym c.has_level.ensures ∙ c.if-not-has_level.false) packed c.in_ok-natural.ensures.choice c.choose_frames-2.ensures.choice

pub choose_frames-requires : goal.choose_frames-requires
choose_frames-requires c =
    let q = part_of c.args.part c.args.array.now in
    let packed = packed_choice c.args.limits.now c.args.depth q (chosen c.in_ok-whole.whole) (chosen_in c.choose_packing-packing.result) (chosen c.cheaper-packed.result) (sym (ok_is _ _ c.in_ok-whole.ensures.choice)) (c.choose_packing-packing.ensures q.slots refl (sym (ok_is _ _ c.in_ok-statistics.ensures))) c.cheaper-packed.ensures.choice in
    packed_costs c.args.limits.now q (c.args.depth - 1) c.args.depth (shape c.cheaper-packed.result.scheme) c.cheaper-packed.result.bytes c.cheaper-packed.result.bytes (omega arith) (omega arith) packed

pub choose_frames-requires-2 : goal.choose_frames-requires-2
choose_frames-requires-2 c =
    let q = part_of c.args.part c.args.array.now in
    let packed = packed_choice c.args.limits.now c.args.depth q (chosen c.in_ok-whole.whole) (chosen_in c.choose_packing-packing.result) (chosen c.cheaper-packed.result) (sym (ok_is _ _ c.in_ok-whole.ensures.choice)) (c.choose_packing-packing.ensures q.slots refl (sym (ok_is _ _ c.in_ok-statistics.ensures))) c.cheaper-packed.ensures.choice in
    packed_costs c.args.limits.now q (c.args.depth - 1) c.args.depth (shape c.cheaper-packed.result.scheme) c.cheaper-packed.result.bytes c.in_ok-natural.natural.bytes (omega arith) c.in_ok-natural.ensures.most packed
