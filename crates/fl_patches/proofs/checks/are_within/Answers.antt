use borrow.Author.Count.{below_more}
use Rattle.std.proofs.Common.{◌≡◌, ℕ, ◌+◌, ◌<◌, ◌≤◌, nat_le, true, false, refl, get_or, ap, sym, ◌∙◌, arith}
use Rattle.std.proofs.lemmas.Bool.{and_from, le-leb, le-ltb, lt-leb, lt-ltb}
use Rattle.fl_column.proofs.ListLaws.{all_fails, all_from, and_false}
use Rattle.fl_patches.specs.PatchMaps.{is_index_within}
use Rattle.fl_column.specs.Numbers.{numbers_by}
use Rattle.fl_patches.proofs.Rising.{length-numbers_by}
use Rattle.fl_patches.proofs.checks.are_within.Goals as goal
use Rattle.fl_patches.proofs.checks.are_within.Goals.{then-index-offset-via-then-index-offset, then-index-offset-via-else-index-offset+then-end-index}

pub returns : goal.returns
returns g c =
    let numbers = numbers_by g.I.Number.value c.args.indices.now in
    let len = length-numbers_by g.I.Number.value c.args.indices.now in
    sym (all_from (is_index_within c.args.offset c.args.array_len) numbers 0 (λ k h. c.loop-i.invariant k (omega arith)))

among : (offset array_len index : ℕ) → offset ≤ index → index < offset + array_len → is_index_within offset array_len index ≡ true
among offset array_len index low high = and_from _ _ (le-leb offset index low) (lt-ltb index (offset + array_len) high)

pub loop-i-preserved : goal.loop-i-preserved
loop-i-preserved g c =
    let within = is_index_within c.args.offset c.args.array_len in
    let numbers = numbers_by g.I.Number.value c.args.indices.now in
    below_more (λ k. within (get_or numbers k 0) ≡ true) c.loop-i.i c.loop-i.invariant
    (rw (← c.number_at-index.ensures) (among _ _ _ c.if-index-offset.false c.if-end-index.false))

early : (offset array_len index : ℕ) → index < offset → is_index_within offset array_len index ≡ false
early offset array_len index low = rw (lt-leb offset index low) refl

late : (offset array_len index : ℕ) → offset + array_len ≤ index → is_index_within offset array_len index ≡ false
late offset array_len index high = and_false (nat_le offset index) (le-ltb index (offset + array_len) high)

pub returns-then-index-offset : goal.returns-then-index-offset
returns-then-index-offset g c =
    let within = is_index_within c.args.offset c.args.array_len in
    let numbers = numbers_by g.I.Number.value c.args.indices.now in
    let len = length-numbers_by g.I.Number.value c.args.indices.now in
    let apart : within c.number_at-index.result ≡ false =
    elim c.then-index-offset.branch [
      | then-index-offset-via-then-index-offset w ↦ early c.args.offset c.args.array_len c.number_at-index.result (omega arith)
      | then-index-offset-via-else-index-offset+then-end-index w ↦ late c.args.offset c.args.array_len c.number_at-index.result (omega arith)
    ] in
    sym (all_fails within numbers c.loop-i.i 0 (omega arith) (ap within (sym c.number_at-index.ensures) ∙ apart))
