use Rattle.std.proofs.Common.{◌≡◌, ◌+◌, ◌-◌, ◌*◌, ◌<◌, ◌≤◌, ◌++◌, ◌∙◌, ℕ, append-nil, ap, arith, length, min, subst, sym}
use Rattle.fl_types.specs.Bits.{between}
use Rattle.fl_column.proofs.ListLaws.{between_none}
use Rattle.fl_ops.proofs.RangeReads.{bits_more, fits_within}
use Rattle.fl_ops.proofs.by_blocks.ranges.push_bits.Goals as goal

pub loop-k-init : goal.loop-k-init
loop-k-init c =
    let bits = c.args.bits.now in
    let none : 0 ≡ min (64 * 0) c.args.count = omega arith in
    subst (λ (n : ℕ). bits ≡ bits ++ between c.args.start (c.args.start + n) c.args.valid.now) none (sym (ap (λ l. bits ++ l) (between_none c.args.valid.now c.args.start) ∙ append-nil bits))

pub word_from-requires-clause-within : goal.word_from-requires-clause-within
word_from-requires-clause-within c =
    let here = c.min-part.ensures in
    let more = c.loop-k-test.true in
    let ended = c.div_ceil-k-end.ensures in
    let some : 0 < c.args.count = omega arith in
    let inside = fits_within (length c.args.valid.now) c.args.start c.args.count c.requires some in
    omega arith

pub loop-k-preserved : goal.loop-k-preserved
loop-k-preserved c =
    let valid = c.args.valid.now in
    let at = 64 * c.loop-k.k in
    let here = c.min-part.ensures in
    let more = c.loop-k-test.true in
    let ended = c.div_ceil-k-end.ensures in
    let some : 0 < c.args.count = omega arith in
    let inside = fits_within (length valid) c.args.start c.args.count c.requires some in
    let now : min (64 * c.loop-k.k) c.args.count ≡ at = omega arith in
    let next : min (64 * (c.loop-k.k + 1)) c.args.count ≡ at + c.min-part.result = omega arith in
    rw next (bits_more valid c.args.bits.now c.loop-k.bits c.push_word.new.self c.args.start at c.min-part.result c.word_from.result (omega arith) c.word_from.ensures.bits c.in_ok-push_word.ensures.ok (rw now at c.loop-k.invariant))

pub returns-clause-bits : goal.returns-clause-bits
returns-clause-bits c =
    let past = c.loop-k-test.false in
    let ended = c.div_ceil-k-end.ensures in
    let all : min (64 * c.loop-k.k) c.args.count ≡ c.args.count = omega arith in
    rw all at c.loop-k.invariant
