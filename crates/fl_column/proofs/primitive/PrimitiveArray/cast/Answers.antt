-- said here, where the search finds it too: a body that breaks it is refused at once
use Rattle.std.proofs.Common.{rules}
use Rattle.fl_column.proofs.CastLaws.{may_cast}
use Rattle.fl_column.proofs.primitive.PrimitiveArray.cast.Goals as goal

pub returns-then-has_null_against : goal.returns-then-has_null_against
returns-then-has_null_against c = search (rules, may_cast)
