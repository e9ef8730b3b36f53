use Rattle.std.proofs.Common.{◌≡◌, ◌≤◌, ◌+◌, ◌-◌, ◌*◌, ◌/◌, ◌∙◌, ℕ, pos, Bool, false, Some, ap, arith, get_or, length-take, length-drop, map, take, drop}
use Rattle.fl_types.specs.declared.dtype.PType.TheVariants.{U8}
use Rattle.fl_types.specs.Validities.{masked}
use Rattle.fl_patches.specs.Exceptions.{count_with_bits}
use Rattle.fl_patches.proofs.Comparisons.{counted_part}
use Rattle.fl_patches.proofs.Histograms.{counts_fit}
use Rattle.fl_patches.proofs.Zeroed.{full_counts, zeroed_counts}
use Rattle.fl_patches.proofs.masking.count_word.Goals as goal

pub count_bits-requires-clause-room : goal.count_bits-requires-clause-room
count_bits-requires-clause-room g c = λ b.
    let t = g.T.NativePType.PTYPE in
    let few : get_or c.args.entries.now b 0 ≤ c.args.from - c.args._start = counts_fit t (masked c.args.bits.now (map g.T.Number.value c.args.items.now)) c.args._start c.args.from b c.args.entries.now c.requires.counted in
    omega (arith, length-take (c.args.to - c.args.from) (drop c.args.from c.args.items.now))

pub count_bits-requires-else-word-clause-room : goal.count_bits-requires-else-word-clause-room
count_bits-requires-else-word-clause-room g c = λ b.
    let t = g.T.NativePType.PTYPE in
    let few : get_or c.args.entries.now b 0 ≤ c.args.from - c.args._start = counts_fit t (masked c.args.bits.now (map g.T.Number.value c.args.items.now)) c.args._start c.args.from b c.args.entries.now c.requires.counted in
    omega (arith, c.write_word.ensures.long, length-take (c.args.to - c.args.from) (drop c.args.from c.args.items.now))

pub returns-then-word : goal.returns-then-word
returns-then-word g c =
    let t = g.T.NativePType.PTYPE in
    let value = g.T.Number.value in
    let items = masked c.args.bits.now (map value c.args.items.now) in
    let order = c.requires.order in
    let few = c.requires.few in
    let aligned = c.requires.aligned in
    let place : 64 * (c.args.from / 64) ≡ c.args.from = omega arith in
    let valid_at : ℕ → Bool = λ i. get_or c.args.bits.now i false in
    counted_part t items c.args._start c.args.from c.args.to (count_with_bits t (map (λ z. Some z) (map value (take (c.args.to - c.args.from) (drop c.args.from c.args.items.now))))) c.args.entries.now c.count_bits.new.entries c.requires.start (omega arith) c.count_bits.ensures.long c.requires.counted
    (full_counts t value c.args.items.now c.args.bits.now c.word-word.result c.args.from c.args.to c.requires.even (omega arith) c.requires.range (omega arith) c.if-word.true
    (λ j h. c.word-word.ensures j (omega arith) ∙ ap (λ n. valid_at (n + j)) place)) c.count_bits.ensures.counts

pub returns-else-word : goal.returns-else-word
returns-else-word g c =
    let t = g.T.NativePType.PTYPE in
    let value = g.T.Number.value in
    let items = masked c.args.bits.now (map value c.args.items.now) in
    let taken = length-take (c.args.to - c.args.from) (drop c.args.from c.args.items.now) in
    let rest = length-drop c.args.from c.args.items.now in
    let order = c.requires.order in
    let range = c.requires.range in
    let few = c.requires.few in
    let aligned = c.requires.aligned in
    let place : 64 * (c.args.from / 64) ≡ c.args.from = omega arith in
    let valid_at : ℕ → Bool = λ i. get_or c.args.bits.now i false in
    counted_part t items c.args._start c.args.from c.args.to (count_with_bits U8 (map (λ z. Some z) (map pos c.write_word.new.group))) c.args.entries.now c.count_bits-else-word.new.entries c.requires.start (omega arith) c.count_bits-else-word.ensures.long c.requires.counted
    (zeroed_counts t value c.args.items.now c.write_word.new.group c.args.bits.now c.word-word.result c.args.from c.args.to c.requires.small c.requires.even (omega arith) c.requires.range (omega (arith, c.write_word.ensures.long))
    (λ j h. c.word-word.ensures j (omega arith) ∙ ap (λ n. valid_at (n + j)) place) (λ j h. c.write_word.ensures.patterns j (omega arith))) c.count_bits-else-word.ensures.counts
