-- Both of two truth values.
use Rattle.std.proofs.Common.{Bool}
use Rattle.std.specs.Prelude.{◌&&◌, IsTrue}
use Rattle.fl_column.proofs.ListLaws.{and_first, and_second}

pub first_true : (b c : Bool) → IsTrue (b && c) → IsTrue b
first_true b c e = and_first b c e

pub second_true : (b c : Bool) → IsTrue (b && c) → IsTrue c
second_true b c e = and_second b c e
