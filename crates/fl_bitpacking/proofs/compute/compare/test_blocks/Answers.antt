use Rattle.std.proofs.Common.{ℕ, ◌+◌, ◌*◌, ◌∙◌, ap, inl, inr, refl, sym, arith}
use Rattle.std.proofs.lemmas.Bool.{cases_lt}
use Rattle.fl_bitpacking.specs.Blocks.{blocks_of}
use Rattle.fl_bitpacking.specs.Parts.{blocks_in}
use Rattle.fl_bitpacking.specs.Compared.{passes_in}
use Rattle.fl_bitpacking.specs.Readings.{more_blocks}
use Rattle.fl_bitpacking.proofs.Readings.{bytes_kept, few_read, none_read, read_after}
use Rattle.fl_bitpacking.proofs.ComparedLaws.{undecided_more, undecided_none, undecided_within}
use Rattle.fl_bitpacking.proofs.compute.compare.test_blocks.Goals as goal

pub loop-j-init : goal.loop-j-init
loop-j-init g c =
    let none = undecided_none c.args.tests.test.ptype (blocks_of c.args.blocks.widths) (passes_in c.args.tests) in
    let reader = c.args.reader.now in
    let fits = c.blocks-blocks.ensures in
    let empty = c.in_ok-words.ensures.items in
    record {
      start = sym c.requires.readable.joined.first;
      long = rw empty refl;
      done = λ p h. absurd (omega arith);
      counted = none_read reader (omega arith) ∙ ap (λ (n : ℕ). more_blocks n reader) (sym none);
    }

pub loop-j-preserved : goal.loop-j-preserved
loop-j-preserved g c =
    let j = c.loop-j.j in
    let more = undecided_more c.args.tests.test.ptype (blocks_of c.args.blocks.widths) (passes_in c.args.tests) j in
    let kept_bytes = bytes_kept c.args.reader.now c.loop-j.reader _ c.loop-j.invariant.counted in
    record {
      start = c.in_ok-start.ensures.next;
      long = c.in_ok-start.ensures.long;
      done = λ p h. elim (cases_lt p (1024 * j)) [
        | inl before ↦ c.in_ok-start.ensures.before p before ∙ c.loop-j.invariant.done p before
        | inr after ↦ rw kept_bytes at (c.in_ok-start.ensures.part p after h)
      ];
      counted = read_after c.args.reader.now c.loop-j.reader c.push_answers.new.reader _ _ _ c.loop-j.invariant.counted c.push_answers.ensures.counted (sym more);
    }

pub returns-in_err-start-clause-most : goal.returns-in_err-start-clause-most
returns-in_err-start-clause-most g c =
    let blocks = blocks_of c.args.blocks.widths in
    let test = passes_in c.args.tests in
    let more = undecided_more c.args.tests.test.ptype blocks test c.loop-j.j in
    let within = undecided_within c.args.tests.test.ptype blocks test (c.loop-j.j + 1) (blocks_in c.args.blocks) (omega arith) in
    few_read c.args.reader.now c.push_answers.new.reader _ _ (read_after c.args.reader.now c.loop-j.reader c.push_answers.new.reader _ _ _ c.loop-j.invariant.counted c.push_answers.ensures.counted (sym more)) within
