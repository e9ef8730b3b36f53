use Rattle.std.proofs.Common.{◌≡◌, ◌∙◌, sym, refl, arith}
use Rattle.fastlanes.specs.Deinterleaved.{deinterleaved}
use Rattle.fastlanes.proofs.Deinterleaved.{whole, half, gathered, deinterleaved_below, last_width}
use Rattle.fastlanes.proofs.bit_transpose.gather_bytes.Goals as goal

pub returns-in-8-clause-moved : goal.returns-in-8-clause-moved
returns-in-8-clause-moved g c m h =
    gathered g.W.FastLanes.T g.W.FastLanes.LANES c.args.source.now c.args.source.now m g.met.W.FastLanes.shape (λ n p. rw (sym c.bits.ensures ∙ c.in-8.is) refl) h

pub returns-in-16-clause-moved : goal.returns-in-16-clause-moved
returns-in-16-clause-moved g c m h =
    gathered g.W.FastLanes.T g.W.FastLanes.LANES c.args.source.now c.deinterleave.result m g.met.W.FastLanes.shape
    (λ n p. rw (sym c.bits.ensures ∙ c.in-16.is) (c.deinterleave.ensures.moved n p)) h

pub returns-in-32-clause-moved : goal.returns-in-32-clause-moved
returns-in-32-clause-moved g c m h =
    gathered g.W.FastLanes.T g.W.FastLanes.LANES c.args.source.now c.deinterleave-in-32-2.result m g.met.W.FastLanes.shape
    (λ n p. rw (sym c.bits.ensures ∙ c.in-32.is) (c.deinterleave-in-32-2.ensures.moved (deinterleaved 128 n) (deinterleaved_below 128 n whole p) ∙ c.deinterleave-in-32.ensures.moved n p)) h

pub returns-in_default-clause-moved : goal.returns-in_default-clause-moved
returns-in_default-clause-moved g c m h =
    let given = c.bits.ensures in
    let last : g.W.FastLanes.T ≡ 64 = last_width g.W.FastLanes.T g.W.FastLanes.LANES g.met.W.FastLanes.shape (omega arith) (omega arith) (omega arith) in
    gathered g.W.FastLanes.T g.W.FastLanes.LANES c.args.source.now c.deinterleave-in_default-3.result m g.met.W.FastLanes.shape
    (λ n p. rw last
    (let q = deinterleaved_below 128 n whole p in
    c.deinterleave-in_default-3.ensures.moved (deinterleaved 64 (deinterleaved 128 n)) (deinterleaved_below 64 (deinterleaved 128 n) half q)
    ∙ (c.deinterleave-in_default-2.ensures.moved (deinterleaved 128 n) q ∙ c.deinterleave-in_default.ensures.moved n p))) h
