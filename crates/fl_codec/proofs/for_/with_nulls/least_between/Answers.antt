use Rattle.std.proofs.Common.{◌≡◌, ◌<◌, ◌+◌, ◌-◌, ◌*◌, ◌/◌, ◌∷◌, ◌∙◌, ℕ, ap, arith, map, min, option_map, sym}
use Rattle.fl_types.specs.Bits.{between, bit_of_word}
use Rattle.fl_types.specs.Validities.{is_valid_at, items_of}
use Rattle.fl_codec.specs.FoRColumns.{least_valid, turned}
use Rattle.fl_codec.proofs.Tables.{map-between}
use Rattle.fl_codec.proofs.WithNulls.{between_join, joined, least_of_nothing, word_items}
use Rattle.fl_codec.proofs.for_.with_nulls.least_between.Goals as goal

pub loop-k-init : goal.loop-k-init
loop-k-init g c =
    let value = g.T.Number.value in
    let aligned = c.requires.aligned in
    let order = c.requires.order in
    least_of_nothing c.args.start (min (64 * (c.args.start / 64)) c.args.end) (map (option_map (turned g.T.NativePType.PTYPE (value c.args.origin))) (items_of c.args.validity.now (map value c.args.items.now))) (omega arith)

pub loop-k-preserved : goal.loop-k-preserved
loop-k-preserved g c =
    let value = g.T.Number.value in
    let turn = turned g.T.NativePType.PTYPE (value c.args.origin) in
    let validity = c.args.validity.now in
    let all = map (option_map turn) (items_of validity (map value c.args.items.now)) in
    let start = c.args.start in
    let k = c.loop-k.k in
    let from = 64 * k in
    let to = c.word_end-to.result in
    let to_is = c.word_end-to.ensures in
    let more = c.loop-k-test.true in
    let count = c.word_count-k-end.ensures in
    let aligned = c.requires.aligned in
    let range = c.requires.range in
    let past = c.loop-k.auto.k in
    let begun : min from c.args.end ≡ from = omega arith in
    let ended : min (64 * (k + 1)) c.args.end ≡ to = omega arith in
    let bits : (j : ℕ) → j < to - from → bit_of_word c.validity_word-word.result j ≡ is_valid_at validity (from + j) = λ j h. c.validity_word-word.ensures j (omega arith) (omega arith) in
    let word = word_items value turn validity c.args.items.now c.validity_word-word.result from to c.requires.covers (omega arith) (omega arith) bits in
    let before : option_map value c.loop-k.least ≡ least_valid (between start from all) = c.loop-k.invariant ∙ ap (λ n. least_valid (between start n all)) begun in
    c.least_after_word-least.ensures
    ∙ (ap (λ xs. least_valid (option_map value c.loop-k.least ∷ xs)) word
    ∙ (joined (option_map value c.loop-k.least) (between start from all) (between from to all) before
    ∙ (ap least_valid (between_join all start from to (omega arith) (omega arith)) ∙ ap (λ n. least_valid (between start n all)) (sym ended))))

pub returns : goal.returns
returns g c =
    let value = g.T.Number.value in
    let turn = option_map (turned g.T.NativePType.PTYPE (value c.args.origin)) in
    let items = items_of c.args.validity.now (map value c.args.items.now) in
    let over = c.loop-k-test.false in
    let count = c.word_count-k-end.ensures in
    let all : min (64 * c.loop-k.k) c.args.end ≡ c.args.end = omega arith in
    c.loop-k.invariant ∙ (ap (λ n. least_valid (between c.args.start n (map turn items))) all ∙ ap least_valid (sym (map-between turn items c.args.start c.args.end)))
