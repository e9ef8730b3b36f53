use Rattle.std.proofs.Common.{◌∙◌, ℕ, pos, cond, ap, arith, get_or, length-set, map, sym}
use Rattle.std.proofs.lemmas.List.{get_or-map}
use Rattle.fl_types.specs.Bits.{bit_of_word}
use Rattle.fl_types.specs.Integers.{pattern_of}
use Rattle.fl_patches.proofs.Zeroed.{pattern_written}
use Rattle.fl_patches.proofs.masking.write_items.Goals as goal

pub loop-j-preserved : goal.loop-j-preserved
loop-j-preserved g c =
    let value = g.T.Number.value in
    let t = g.T.NativePType.PTYPE in
    let more = c.loop-j-test.true in
    let long = c.loop-j.invariant.long in
    let pattern : ℕ → ℕ = λ i. cond (bit_of_word c.args.word i) (pattern_of t (get_or (map value c.args.items.now) i (pos 0))) 0 in
    let read = ap value c.index-items-j.is ∙ sym (get_or-map value c.args.items.now c.loop-j.j c.index-items-j.result (pos 0) more) in
    record {
      written = pattern_written pattern c.loop-j.group c.loop-j.j c.valid_pattern.result (omega arith) c.loop-j.invariant.written
          (c.valid_pattern.ensures ∙ (ap (λ b. cond b (pattern_of t (value c.index-items-j.result)) 0) c.has_bit.ensures ∙ ap (λ z. cond (bit_of_word c.args.word c.loop-j.j) (pattern_of t z) 0) read));
      long = rw length-set long;
    }

pub returns-clause-patterns : goal.returns-clause-patterns
returns-clause-patterns g c j h =
    let over = c.loop-j-test.false in
    c.loop-j.invariant.written j (omega arith)
