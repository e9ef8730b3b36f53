use Rattle.std.proofs.Common.{◌+◌, ◌-◌, ◌∙◌, ap, arith, drop, get_or, length-drop, length-take, map, pos}
use Rattle.fl_codec.proofs.SliceParts.{integer_of_part}
use Rattle.fl_codec.proofs.rle.decoding.values_of_chunk.Goals as goal

pub returns-clause-count : goal.returns-clause-count
returns-clause-count g c =
    let start_is = c.start_of_chunk-start.ensures in
    let end_is = c.end_of_chunk-end.ensures in
    let order = c.requires.order in
    let within = c.requires.within in
    let taken = length-take (c.end_of_chunk-end.result - c.start_of_chunk-start.result) (drop c.start_of_chunk-start.result c.args.values.now) in
    let rest = length-drop c.start_of_chunk-start.result c.args.values.now in
    omega arith

pub returns-clause-values : goal.returns-clause-values
returns-clause-values g c i h =
    let values = c.args.values.now in
    let start = c.start_of_chunk-start.result in
    let count = c.end_of_chunk-end.result - start in
    let taken = length-take count (drop start values) in
    integer_of_part g.T.Number.value values start count i (omega arith) ∙ ap (λ n. get_or (map g.T.Number.value values) (n + i) (pos 0)) c.start_of_chunk-start.ensures
