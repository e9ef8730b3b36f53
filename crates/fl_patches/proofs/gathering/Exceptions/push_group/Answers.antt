use Rattle.std.proofs.Common.{◌≡◌, ◌+◌, ◌-◌, ◌*◌, ◌/◌, ◌&&◌, ◌∙◌, ℕ, pos, Bool, false, get_or, length-take, length-drop, map, nat_lt, take, drop, ap, arith, refl, sym}
use Rattle.std.proofs.lemmas.Result.{on_ok_weaker}
use Rattle.fl_types.specs.Bits.{bit_of_word}
use Rattle.fl_types.specs.Integers.{pattern_of}
use Rattle.fl_types.specs.Validities.{is_valid_at}
use Rattle.fl_column.proofs.ListLaws.{and_first}
use Rattle.fl_patches.specs.Exceptions.{bit_count}
use Rattle.fl_patches.proofs.Gathers.{gathered_nulls}
use Rattle.fl_patches.proofs.Marked.{and_full, full_valid, group_pushed, mark_inside}
use Rattle.fl_patches.proofs.gathering.Exceptions.push_group.Goals as goal

pub push_marked-requires-in-NonNullable : goal.push_marked-requires-in-NonNullable
push_marked-requires-in-NonNullable g c j set =
    let taken = length-take (c.args.end - c.args.start) (drop c.args.start c.args.items.now) in
    let rest = length-drop c.args.start c.args.items.now in
    let within = mark_inside c.marks_of-marks.result _ j c.marks_of-marks.ensures.inside set in
    omega arith

pub push_marked-requires : goal.push_marked-requires
push_marked-requires g c j set =
    let taken = length-take (c.args.end - c.args.start) (drop c.args.start c.args.items.now) in
    let rest = length-drop c.args.start c.args.items.now in
    let first = and_first (bit_of_word c.marks_of-marks.result j) (bit_of_word c.word.result j) (sym (c.both.ensures j) ∙ set) in
    let within = mark_inside c.marks_of-marks.result _ j c.marks_of-marks.ensures.inside first in
    omega arith

pub returns-in-NonNullable : goal.returns-in-NonNullable
returns-in-NonNullable g c =
    let t = g.T.NativePType.PTYPE in
    let value = g.T.Number.value in
    let taken = length-take (c.args.end - c.args.start) (drop c.args.start c.args.items.now) in
    let rest = length-drop c.args.start c.args.items.now in
    let order = c.requires.order in
    on_ok_weaker c.push_marked-in-NonNullable.result
    (λ step. group_pushed t value c.args.validity.now c.args.items.now c.args.start c.args.end c.args.width c.marks_of-marks.result _ _ _ _ c.requires.covers (omega arith) c.requires.range c.requires.few
    (λ j h. and_full _ _ _ (c.marks_of-marks.ensures.marks j (omega arith)) (full_valid c.args.validity.now (c.args.start + j) c.in-NonNullable.is))
    (λ j h. c.marks_of-marks.ensures.inside j (omega arith)) step)
    c.push_marked-in-NonNullable.ensures

pub returns-in-Array : goal.returns-in-Array
returns-in-Array g c =
    let t = g.T.NativePType.PTYPE in
    let value = g.T.Number.value in
    let taken = length-take (c.args.end - c.args.start) (drop c.args.start c.args.items.now) in
    let rest = length-drop c.args.start c.args.items.now in
    let order = c.requires.order in
    let few = c.requires.few in
    let aligned = c.requires.aligned in
    let place : 64 * (c.args.start / 64) ≡ c.args.start = omega arith in
    on_ok_weaker c.push_marked.result
    (λ step. group_pushed t value c.args.validity.now c.args.items.now c.args.start c.args.end c.args.width c.both.result _ _ _ _ c.requires.covers (omega arith) c.requires.range c.requires.few
    (λ j h.
    let slot : ℕ → Bool = λ i. get_or c.in-Array.bits i false in
    let here : bit_of_word c.word.result j ≡ slot (c.args.start + j) = c.word.ensures j (omega arith) ∙ ap (λ n. slot (n + j)) place in
    let is : is_valid_at c.args.validity.now (c.args.start + j) ≡ slot (c.args.start + j) = rw c.in-Array.is refl in
    c.both.ensures j ∙ (ap (λ b. b && bit_of_word c.word.result j) (c.marks_of-marks.ensures.marks j (omega arith)) ∙ ap (λ b. nat_lt c.args.width (bit_count (pattern_of t (get_or (map value (take (c.args.end - c.args.start) (drop c.args.start c.args.items.now))) j (pos 0)))) && b) (here ∙ sym is)))
    (λ j h. c.both.ensures j ∙ ap (λ b. b && bit_of_word c.word.result j) (c.marks_of-marks.ensures.inside j (omega arith))) step)
    c.push_marked.ensures

pub returns-in-AllInvalid : goal.returns-in-AllInvalid
returns-in-AllInvalid g c = λ before len so.
    rw c.in-AllInvalid.is (gathered_nulls g.T.NativePType.PTYPE c.args.width (map g.T.Number.value c.args.items.now) c.args.start c.args.end c.args.self.now.places.items (map g.T.Number.value c.args.self.now.values.items) before so)
