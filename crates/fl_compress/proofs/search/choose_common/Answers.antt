use Rattle.std.proofs.Common.{sym}
use Rattle.fl_array.proofs.EncodedRLE.{ok_is}
use Rattle.fl_compress.specs.Choices.{chosen}
use Rattle.fl_compress.proofs.AnswerLaws.{over_two}
use Rattle.fl_compress.proofs.search.choose_common.Goals as goal

pub returns : goal.returns
returns g c =
    over_two c.args.order (chosen c.in_ok-child.child) (chosen c.plain.result) _ _ c.over_chunk_references.result (sym (ok_is _ _ c.in_ok-child.ensures.choice)) c.plain.ensures c.over_chunk_references.ensures
