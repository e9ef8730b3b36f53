use Rattle.fl_types.specs.Values.{integer_of}
use Rattle.fl_types.proofs.Refused.{no_memory_there, only_memory}
use Rattle.fl_column.specs.Queries.{is_between}
use Rattle.fl_column.proofs.QueryLaws.{tested_column}
use Rattle.fl_column.proofs.primitive.PrimitiveArray.between.Goals as goal

pub returns : goal.returns
returns c = tested_column (is_between c.args.options (integer_of c.args.lower) (integer_of c.args.upper)) c.args.self.now c.validity.result.now c.in_ok-validity.validity _ c.in_ok-bits.bits c.new.result c.validity.ensures.value c.validity.ensures.covers c.slots.ensures.slots c.in_ok-validity.ensures c.in_ok-bits.ensures c.new.ensures

pub returns-in_err-validity : goal.returns-in_err-validity
returns-in_err-validity c = no_memory_there _ c.from_residual.result _ _ c.from_residual.ensures.1 (only_memory _ _ c.in_err-validity.ensures)

pub returns-in_err-bits : goal.returns-in_err-bits
returns-in_err-bits c = no_memory_there _ c.from_residual-in_err-bits.result _ _ c.from_residual-in_err-bits.ensures.1 (only_memory _ _ c.in_err-bits.ensures)
