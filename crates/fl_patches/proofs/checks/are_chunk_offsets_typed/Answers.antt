use Rattle.std.proofs.Common.{sym, ◌∙◌, arith}
use Rattle.fl_patches.proofs.Chunks.{chunk_miscounts, chunks_count}
use Rattle.fl_column.specs.Numbers.{numbers, numbers_by}
use Rattle.fl_patches.proofs.Rising.{length-numbers_by}
use Rattle.fl_patches.proofs.checks.are_chunk_offsets_typed.Goals as goal

pub returns-then-number_at-count : goal.returns-then-number_at-count
returns-then-number_at-count g c =
    let offsets = numbers_by g.C.Number.value c.as_slice-offsets.result.now in
    let len = length-numbers_by g.C.Number.value c.as_slice-offsets.result.now in
    let same = chunk_miscounts (numbers c.args.indices.now) offsets c.loop-k.k (omega arith) (λ e. c.if-number_at-count.true (c.number_at.ensures ∙ (e ∙ sym c.count_in-count.ensures))) in
    sym (rw (← c.as_slice-offsets.ensures) same)

pub returns : goal.returns
returns g c =
    let offsets = numbers_by g.C.Number.value c.as_slice-offsets.result.now in
    let len = length-numbers_by g.C.Number.value c.as_slice-offsets.result.now in
    let same = chunks_count (numbers c.args.indices.now) offsets (λ k h. c.loop-k.invariant k (omega arith)) in
    sym (rw (← c.as_slice-offsets.ensures) same)
