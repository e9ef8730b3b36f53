use Rattle.fl_encode.specs.SchemeShapes.{shape}
use Rattle.fl_compress.proofs.AnswerLaws.{constant_made, memory_alone, no_larger_made, plain_made, smallest_made}
use Rattle.fl_compress.proofs.compression.compress_within.Goals as goal

pub returns-clause-smallest : goal.returns-clause-smallest
returns-clause-smallest c = smallest_made c.args.limits.now c.args.array.now (shape c.in_ok-scheme.field-0.scheme) c.in_ok-scheme.field-0.bytes c.encode.result c.in_ok-scheme.ensures c.encode.ensures

pub returns-clause-memory : goal.returns-clause-memory
returns-clause-memory c = memory_alone c.args.limits.now c.args.array.now (shape c.in_ok-scheme.field-0.scheme) c.in_ok-scheme.field-0.bytes c.encode.result c.in_ok-scheme.ensures c.encode.ensures

pub returns-clause-plain : goal.returns-clause-plain
returns-clause-plain c = no_larger_made c.args.limits.now c.args.array.now (shape c.in_ok-scheme.field-0.scheme) c.in_ok-scheme.field-0.bytes c.encode.result c.in_ok-scheme.ensures c.encode.ensures

pub returns-clause-empty : goal.returns-clause-empty
returns-clause-empty c = plain_made c.args.limits.now c.args.array.now (shape c.in_ok-scheme.field-0.scheme) c.in_ok-scheme.field-0.bytes c.encode.result c.validity-validity.ensures.covers c.in_ok-scheme.ensures c.encode.ensures

pub returns-clause-constant : goal.returns-clause-constant
returns-clause-constant c = constant_made c.args.limits.now c.args.array.now (shape c.in_ok-scheme.field-0.scheme) c.in_ok-scheme.field-0.bytes c.encode.result c.in_ok-scheme.ensures c.encode.ensures
