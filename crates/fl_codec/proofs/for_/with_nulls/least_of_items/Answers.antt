use Rattle.std.proofs.Common.{◌≡◌, ◌∷◌, ◌∙◌, ℕ, ℤ, pos, Option, Some, None, cond, ap, refl, arith, get_or, length, map, option_map}
use Rattle.fl_types.specs.Bits.{bit_of_word, tabulate}
use Rattle.fl_codec.specs.FoRColumns.{least_valid, min_valid, turned}
use Rattle.fl_codec.proofs.WithNulls.{least_alone, word_step}
use Rattle.fl_codec.proofs.WithoutNulls.{value_of_read}
use Rattle.fl_codec.proofs.for_.with_nulls.least_of_items.Goals as goal

pub loop-j-init : goal.loop-j-init
loop-j-init g c = record { least = least_alone (g.T.Number.value c.args.seed); within = omega arith }

pub loop-j-preserved : goal.loop-j-preserved
loop-j-preserved g c =
    let value = g.T.Number.value in
    let turn = turned g.T.NativePType.PTYPE (value c.args.origin) in
    let more = c.loop-j-test.true in
    let seed = value c.args.seed in
    let least = value c.loop-j.least in
    let item = get_or (map value c.args.items.now) c.loop-j.j (pos 0) in
    let bit = bit_of_word c.args.word c.loop-j.j in
    let slot : ℕ → Option ℤ = λ j. option_map (turned g.T.NativePType.PTYPE (value c.args.origin)) (cond (bit_of_word c.args.word j) (Some (get_or (map value c.args.items.now) j (pos 0))) None) in
    let read = value_of_read value c.args.items.now c.loop-j.j c.index-items-j.result more c.index-items-j.is in
    let chosen = c.valid_or-item.ensures ∙ (ap (λ b. cond b (value c.minus.result) seed) c.has_bit.ensures ∙ ap (λ z. cond bit z seed) (c.minus.ensures ∙ ap turn read)) in
    let lesser = c.less-least.ensures ∙ ap (λ z. min_valid (Some least) (Some z)) chosen in
    record {
      least = word_step turn slot seed least (value c.less-least.result) item bit c.loop-j.j refl c.loop-j.invariant.least lesser;
      within = omega arith;
    }

pub returns : goal.returns
returns g c =
    let value = g.T.Number.value in
    let slot : ℕ → Option ℤ = λ j. option_map (turned g.T.NativePType.PTYPE (value c.args.origin)) (cond (bit_of_word c.args.word j) (Some (get_or (map value c.args.items.now) j (pos 0))) None) in
    let over = c.loop-j-test.false in
    let within = c.loop-j.invariant.within in
    let all : c.loop-j.j ≡ length c.args.items.now = omega arith in
    c.loop-j.invariant.least ∙ ap (λ n. least_valid (Some (value c.args.seed) ∷ tabulate slot n)) all
