use Rattle.std.proofs.Common.{rules}
use Rattle.std.specs.Prelude.{FitsSigned}
use Rattle.std.specs.Int.{w128}
use Rattle.std.proofs.lemmas.Int.{to_z-of_z}
use Rattle.fl_file.proofs.reading.statistics_at.Goals as goal

pub returns : goal.returns
returns c =
    let f : FitsSigned w128 c.integer_at.result = search rules in
    let g : FitsSigned w128 c.integer_at-2.result = search rules in
    let h : FitsSigned w128 c.integer_at-3.result = search rules in
    rw (to_z-of_z w128 c.integer_at.result f, to_z-of_z w128 c.integer_at-2.result g, to_z-of_z w128 c.integer_at-3.result h, c.word_at.ensures, c.word_at-2.ensures, c.word_at-3.ensures, c.integer_at.ensures, c.integer_at-2.ensures, c.integer_at-3.ensures) at c.statistics_of.ensures
