use Rattle.std.proofs.Common.{◌≡◌, ◌∙◌, ℕ, ℤ, pos, Option, Some, None, cond, ap, arith, get_or, length, map, option_map, refl, sym}
use Rattle.fl_types.specs.Bits.{bit_of_word, tabulate}
use Rattle.fl_codec.specs.FoRColumns.{turned}
use Rattle.fl_codec.proofs.ReferenceLaws.{get_or-table, length-table}
use Rattle.fl_codec.proofs.WithNulls.{first_found, none_found, none_more}
use Rattle.fl_codec.proofs.WithoutNulls.{value_of_read}
use Rattle.fl_codec.proofs.for_.with_nulls.first_of_word.Goals as goal

pub loop-j-preserved : goal.loop-j-preserved
loop-j-preserved g c =
    let value = g.T.Number.value in
    let slot : ℕ → Option ℤ = λ j. option_map (turned g.T.NativePType.PTYPE (value c.args.origin)) (cond (bit_of_word c.args.word j) (Some (get_or (map value c.args.items.now) j (pos 0))) None) in
    let items = tabulate slot (length c.args.items.now) in
    let long : length items ≡ length c.args.items.now = length-table slot (length c.args.items.now) in
    let more = c.loop-j-test.true in
    let clear = sym c.has_bit.ensures ∙ c.if-has_bit.false in
    let here = get_or-table slot (length c.args.items.now) c.loop-j.j None more ∙ ap (λ b. option_map (turned g.T.NativePType.PTYPE (value c.args.origin)) (cond b (Some (get_or (map value c.args.items.now) c.loop-j.j (pos 0))) None)) clear in
    none_more items c.loop-j.j (omega arith) c.loop-j.invariant here

pub returns-then-has_bit : goal.returns-then-has_bit
returns-then-has_bit g c =
    let value = g.T.Number.value in
    let slot : ℕ → Option ℤ = λ j. option_map (turned g.T.NativePType.PTYPE (value c.args.origin)) (cond (bit_of_word c.args.word j) (Some (get_or (map value c.args.items.now) j (pos 0))) None) in
    let items = tabulate slot (length c.args.items.now) in
    let long : length items ≡ length c.args.items.now = length-table slot (length c.args.items.now) in
    let turn = turned g.T.NativePType.PTYPE (value c.args.origin) in
    let more = c.loop-j-test.true in
    let set = sym c.has_bit.ensures ∙ c.if-has_bit.true in
    let read = value_of_read value c.args.items.now c.loop-j.j c.index-items-j.result more c.index-items-j.is in
    let here = get_or-table slot (length c.args.items.now) c.loop-j.j None more ∙ (ap (λ b. option_map turn (cond b (Some (get_or (map value c.args.items.now) c.loop-j.j (pos 0))) None)) set ∙ ap (λ z. Some z) (sym (c.minus.ensures ∙ ap turn read))) in
    record {
      one = first_found items (value c.minus.result) c.loop-j.j (omega arith) c.loop-j.invariant here;
      none = λ e. cc;
    }

pub returns : goal.returns
returns g c =
    let value = g.T.Number.value in
    let slot : ℕ → Option ℤ = λ j. option_map (turned g.T.NativePType.PTYPE (value c.args.origin)) (cond (bit_of_word c.args.word j) (Some (get_or (map value c.args.items.now) j (pos 0))) None) in
    let items = tabulate slot (length c.args.items.now) in
    let long : length items ≡ length c.args.items.now = length-table slot (length c.args.items.now) in
    let over = c.loop-j-test.false in
    record {
      one = refl;
      none = λ e. none_found items c.loop-j.j (omega arith) c.loop-j.invariant;
    }
