-- said here, where the search is quick
use Rattle.std.proofs.Common.{rules}
use Rattle.fl_metadata.proofs.scalar.scalar_number.Goals as goal

pub overflow_cast-result : goal.overflow_cast-result
overflow_cast-result c = search rules

pub overflow_cast-value : goal.overflow_cast-value
overflow_cast-value c = search rules

pub returns-then-is_unsigned : goal.returns-then-is_unsigned
returns-then-is_unsigned c = search rules

pub returns-else-is_unsigned : goal.returns-else-is_unsigned
returns-else-is_unsigned c = search rules
