use Rattle.std.proofs.Common.{◌≡◌, ◌+◌, ◌-◌, ◌∙◌, map, ap, sym, subst, ℕ, arith}
use Rattle.std.specs.Option.{option_copied}
use Rattle.fl_types.specs.Bits.{between, true_count}
use Rattle.fl_bitpacking.specs.Filtered.{AreKept, count_before, items_before, slots_of}
use Rattle.fl_bitpacking.proofs.FilteredLaws.{block_skipped}
use Rattle.fl_bitpacking.proofs.compute.filter.Filtering.push_block.Goals as goal

pub patches_to-after-requires-clause-before : goal.patches_to-after-requires-clause-before
patches_to-after-requires-clause-before g c =
    let from = c.places-from.ensures.from in
    let inside = c.requires.block in
    let place : c.places-from.result.0 ≡ items_before c.args.self c.args.j = omega arith in
    c.requires.before ∙ ap (λ (n : ℕ). count_before n (option_copied c.args.self.patches)) (sym place)

pub returns-then-count-eq0-clause-kept : goal.returns-then-count-eq0-clause-kept
returns-then-count-eq0-clause-kept g c =
    let f = c.args.self in
    let from = c.places-from.result.0 in
    let to = c.places-from.result.1 in
    let order = c.places-from.ensures.order in
    let from_is = c.places-from.ensures.from in
    let to_is = c.places-from.ensures.to in
    let inside = c.requires.block in
    let here : items_before f c.args.j ≡ from = omega arith in
    let next : from + (to - from) ≡ items_before f (c.args.j + 1) = omega arith in
    let none : true_count (between from (from + (to - from)) f.bits.now) ≡ 0 = sym c.count_between-count.ensures ∙ c.if-count-eq0.true in
    let begun : AreKept g.T.Number.value g.T.NativePType.PTYPE c.args.reader.now.bytes f from c.args.taken.now.items = subst (λ (n : ℕ). AreKept g.T.Number.value g.T.NativePType.PTYPE c.args.reader.now.bytes f n c.args.taken.now.items) here c.requires.begun in
    subst (λ (n : ℕ). AreKept g.T.Number.value g.T.NativePType.PTYPE c.args.reader.now.bytes f n c.args.taken.now.items) next (block_skipped f.bits.now (slots_of g.T.NativePType.PTYPE c.args.reader.now.bytes f) (map g.T.Number.value c.args.taken.now.items) from (to - from) none begun)
