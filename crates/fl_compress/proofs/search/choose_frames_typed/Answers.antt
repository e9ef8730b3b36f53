use Rattle.std.proofs.Common.{map, sym, ◌∙◌}
use Rattle.fl_compress.specs.Candidates.{packed_schemes}
use Rattle.fl_compress.specs.Choices.{chosen, part_of}
use Rattle.fl_compress.proofs.AnswerLaws.{frames_choice}
use Rattle.fl_compress.proofs.ReferenceLaws.{common_frames}
use Rattle.fl_compress.proofs.search.choose_frames_typed.Goals as goal

pub returns-clause-choice : goal.returns-clause-choice
returns-clause-choice g c =
    frames_choice c.args.order (part_of c.args.part c.args.array.now) (packed_schemes c.args.limits.now c.args.depth) (chosen c.args.first) (chosen c.in_ok-one.one) (chosen c.in_ok-many.many) (chosen c.cheaper.result)
    c.in_ok-one.ensures.choice c.in_ok-many.ensures c.cheaper.ensures.choice

pub returns-then-are_least-clause-choice : goal.returns-then-are_least-clause-choice
returns-then-are_least-clause-choice g c =
    let q = part_of c.args.part c.args.array.now in
    let all = c.are_least.ensures c.if-are_least.true in
    common_frames c.args.order q c.args.limits.now c.args.depth (chosen c.args.first) (chosen c.in_ok-one.one) (map g.T.Number.value c.in_ok-references.references.items) all.0 (sym c.in_ok-references.ensures.least ∙ all.1) c.in_ok-references.ensures.references (rw c.deref.ensures.value at all.2) c.in_ok-one.ensures.choice
