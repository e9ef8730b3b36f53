use Rattle.std.proofs.Common.{◌≡◌, ◌≤◌, ◌∙◌, Some, length, map, get_or, ap, refl, sym, arith}
use Rattle.fl_types.specs.Integers.{bits_of_type}
use Rattle.fl_patches.proofs.Comparisons.{at_last, at_least_all, counted_more, counted_none, group_length, left_in_group, step_at, wider_is}
use Rattle.fl_patches.proofs.comparing.count_bits.Goals as goal

pub loop-width-init : goal.loop-width-init
loop-width-init g c =
    let t = g.T.NativePType.PTYPE in
    let group = map (λ z. Some z) (map g.T.Number.value c.args.group.now) in
    record {
      counted = counted_none t c.args.entries.now group c.requires.long;
      rest = sym (group_length g.T.Number.value c.args.group.now) ∙ at_least_all t group;
    }

pub overflow_sub-entries : goal.overflow_sub-entries
overflow_sub-entries g c =
    let t = g.T.NativePType.PTYPE in
    let group = map (λ z. Some z) (map g.T.Number.value c.args.group.now) in
    let wider = wider_is t c.loop-width.width c.count_wider-wider.result group c.count_wider-wider.ensures in
    let step = step_at t c.loop-width.width group in
    let rest = c.loop-width.invariant.rest in
    omega arith

pub overflow_add-entries : goal.overflow_add-entries
overflow_add-entries g c =
    let t = g.T.NativePType.PTYPE in
    let width = c.loop-width.width in
    let had = c.loop-width.invariant.counted.left width (omega arith) in
    let few = c.requires.room width in
    let some : c.loop-width.rest ≤ length c.args.group.now = left_in_group t g.T.Number.value c.args.group.now width c.loop-width.rest c.loop-width.invariant.rest in
    omega arith

pub loop-width-preserved : goal.loop-width-preserved
loop-width-preserved g c =
    let t = g.T.NativePType.PTYPE in
    let group = map (λ z. Some z) (map g.T.Number.value c.args.group.now) in
    let width = c.loop-width.width in
    let wider = wider_is t width c.count_wider-wider.result group c.count_wider-wider.ensures in
    let step = step_at t width group in
    let rest = c.loop-width.invariant.rest in
    let bits : c.bit_width-bits.result ≡ bits_of_type t = c.bit_width-bits.ensures ∙ ap bits_of_type c.PTYPE.ensures in
    record {
      counted = counted_more t c.args.entries.now group width _ _ c.loop-width.entries (omega arith) (omega arith) refl c.loop-width.invariant.counted;
      rest = wider;
    }

pub overflow_add-entries-2 : goal.overflow_add-entries-2
overflow_add-entries-2 g c =
    let t = g.T.NativePType.PTYPE in
    let bits = c.bit_width-bits.result in
    let had = c.loop-width.invariant.counted.left bits (omega arith) in
    let few = c.requires.room bits in
    let some : c.loop-width.rest ≤ length c.args.group.now = left_in_group t g.T.Number.value c.args.group.now c.loop-width.width c.loop-width.rest c.loop-width.invariant.rest in
    omega arith

pub returns-clause-counts : goal.returns-clause-counts
returns-clause-counts g c = λ b h.
    let t = g.T.NativePType.PTYPE in
    let group = map (λ z. Some z) (map g.T.Number.value c.args.group.now) in
    let bits : c.bit_width-bits.result ≡ bits_of_type t = c.bit_width-bits.ensures ∙ ap bits_of_type c.PTYPE.ensures in
    let last : c.loop-width.width ≡ bits_of_type t = omega arith in
    let rest = (rw last at c.loop-width.invariant.rest) ∙ at_last t group in
    let counted = rw last at c.loop-width.invariant.counted in
    let all = counted_more t c.args.entries.now group (bits_of_type t) (get_or c.loop-width.entries (bits_of_type t) 0) c.loop-width.rest c.loop-width.entries (omega arith) rest refl counted in
    rw bits (all.done b (omega (arith, c.requires.long)))
