use Rattle.std.proofs.Common.{◌≡◌, ℕ, ◌-◌, ◌<◌, ◌≤◌, arith}
use Rattle.std.specs.Prelude.{min}
use Rattle.fl_array.proofs.RLELaws.{kept_before, kept_to_end}
use Rattle.fl_array.proofs.rle.RLEArray.kept_values.Goals as goal

among : (first last f l chunks : ℕ) → first ≡ f → last ≡ l → f < l → last ≤ chunks → first < chunks
among first last f l chunks is ends some range = omega arith

behind_is : (last l chunks : ℕ) → last ≡ l → last < chunks → min l (chunks - 1) ≡ last
behind_is last l chunks ends more = omega arith

pub start_from-first-requires : goal.start_from-first-requires
start_from-first-requires c =
    let chunks = c.chunk_ranges-kept.ensures in
    record {
      range = among _ _ _ _ _ chunks.first chunks.last c.requires.some chunks.chunk_range;
      first = c.requires.least;
      start = rw chunks.first c.requires.from;
    }

pub start_from-last-requires : goal.start_from-last-requires
start_from-last-requires c =
    let more = rw (c.len.ensures, c.offsets.ensures) at c.if-kept-len.true in
    record {
      range = more;
      first = c.requires.least;
      start = rw (behind_is _ _ _ c.chunk_ranges-kept.ensures.last more) at c.requires.to;
    }

pub returns-then-kept-len : goal.returns-then-kept-len
returns-then-kept-len c =
    let chunks = c.chunk_ranges-kept.ensures in
    let more = rw (c.len.ensures, c.offsets.ensures) at c.if-kept-len.true in
    let kept = kept_before c.args.self.now c.args.start c.args.end _ _ _ _ c.prove_well_formed.ensures c.requires.order c.requires.range chunks.first chunks.last c.requires.some more c.start_from-first.ensures c.start_from-last.ensures in
    record { from = kept.from; to = kept.to; order = kept.order; range = kept.within }

pub returns-else-kept-len : goal.returns-else-kept-len
returns-else-kept-len c =
    let chunks = c.chunk_ranges-kept.ensures in
    let all = rw (c.len.ensures, c.offsets.ensures) at c.if-kept-len.false in
    let kept = kept_to_end c.args.self.now c.args.start c.args.end _ _ _ _ c.prove_well_formed.ensures c.requires.order c.requires.range chunks.first chunks.last c.requires.some all c.start_from-first.ensures (rw c.values.ensures at c.len-last.ensures) in
    record { from = kept.from; to = kept.to; order = kept.order; range = kept.within }
