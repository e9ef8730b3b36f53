use Rattle.std.proofs.Common.{◌≡◌, ◌+◌, ◌*◌, Some, length, map, ap, ◌∙◌, arith, refl}
use Rattle.std.proofs.lemmas.List.{length-map}
use Rattle.fl_types.specs.Integers.{bits_of_type}
use Rattle.fl_codec.specs.Chunks.{chunk}
use Rattle.fl_patches.specs.Exceptions.{histogram_of}
use Rattle.fl_patches.proofs.Histograms.{entry_few, length-histogram, word_value}
use Rattle.fl_statistics.proofs.Counts.{parts_joined}
use Rattle.fl_statistics.proofs.Slots.{block_filled, block_length, slots_histogram}
use Rattle.fl_statistics.proofs.widths.count_block.Goals as goal

pub add_entries-requires-clause-even : goal.add_entries-requires-clause-even
add_entries-requires-clause-even g c =
    let here : length c.count_words.new.entries ≡ bits_of_type g.T.NativePType.PTYPE + 1 = ap length c.count_words.ensures ∙ length-histogram g.T.NativePType.PTYPE _ in
    omega (arith, c.requires.even)

pub add_entries-requires-clause-fit : goal.add_entries-requires-clause-fit
add_entries-requires-clause-fit g c = λ k.
    let read = word_value g.T.Physical.FastLanes.pattern g.T.NativePType.PTYPE in
    let here = entry_few g.T.NativePType.PTYPE (map (λ z. Some z) (map read c.args.words.now)) c.count_words.new.entries k c.count_words.ensures in
    let before = c.requires.fit k in
    omega (arith, c.requires.few, length-map (map read c.args.words.now) (λ z. Some z), length-map c.args.words.now read)

pub overflow_add-entries : goal.overflow_add-entries
overflow_add-entries g c =
    let read = word_value g.T.Physical.FastLanes.pattern g.T.NativePType.PTYPE in
    let here = entry_few g.T.NativePType.PTYPE (map (λ z. Some z) (map read c.args.words.now)) c.count_words.new.entries 0 c.count_words.ensures in
    omega (arith, c.requires.few, length-map (map read c.args.words.now) (λ z. Some z), length-map c.args.words.now read)

pub bounds-entries-0 : goal.bounds-entries-0
bounds-entries-0 g c =
    let here : length c.count_words.new.entries ≡ bits_of_type g.T.NativePType.PTYPE + 1 = ap length c.count_words.ensures ∙ length-histogram g.T.NativePType.PTYPE _ in
    omega arith

pub bounds-entries-0-2 : goal.bounds-entries-0-2
bounds-entries-0-2 g c =
    let here : length c.count_words.new.entries ≡ bits_of_type g.T.NativePType.PTYPE + 1 = ap length c.count_words.ensures ∙ length-histogram g.T.NativePType.PTYPE _ in
    omega arith

pub returns-clause-block : goal.returns-clause-block
returns-clause-block g c = λ items block same.
    let t = g.T.NativePType.PTYPE in
    let read = word_value g.T.Physical.FastLanes.pattern t in
    let counted : c.count_words.new.entries ≡ histogram_of t (chunk block items) = c.count_words.ensures ∙ (ap (λ zs. histogram_of t (map (λ z. Some z) zs)) same ∙ slots_histogram t (chunk block items)) in
    block_filled t items block (length c.args.words.now) _ c.count_words.new.entries (block_length read c.args.words.now (chunk block items) same) counted refl

pub returns-clause-all : goal.returns-clause-all
returns-clause-all g c = λ items block same before.
    let t = g.T.NativePType.PTYPE in
    let counted : c.count_words.new.entries ≡ histogram_of t (chunk block items) = c.count_words.ensures ∙ (ap (λ zs. histogram_of t (map (λ z. Some z) zs)) same ∙ slots_histogram t (chunk block items)) in
    parts_joined t items (1024 * block) (1024 * (block + 1)) c.args.all.now c.count_words.new.entries c.add_entries.new.entries (omega arith) before counted c.add_entries.ensures.long c.add_entries.ensures.sums
