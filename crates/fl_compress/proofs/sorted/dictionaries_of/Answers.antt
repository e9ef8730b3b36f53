use Rattle.std.proofs.Common.{Ok, subst, sym}
use Rattle.fl_types.specs.Refusals.{Answers}
use Rattle.fl_codec.specs.Parts.{run_parts}
use Rattle.fl_compress.proofs.sorted.dictionaries_of.Goals as goal

pub returns-then-are_sorted : goal.returns-then-are_sorted
returns-then-are_sorted c = subst (λ runs. Answers run_parts c.encode.result (Ok runs)) (sym (c.are_sorted.ensures c.if-are_sorted.true)) c.encode.ensures
