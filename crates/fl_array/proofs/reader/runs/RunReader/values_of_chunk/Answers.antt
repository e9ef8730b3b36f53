use Rattle.std.proofs.Common.{◌∙◌, ap, length, arith}
use Rattle.fl_column.specs.Columns.{Column, column_of_primitive}
use Rattle.fl_array.proofs.ReadRuns.{own_chunk, own_values, stored_values}
use Rattle.fl_array.proofs.reader.runs.RunReader.values_of_chunk.Goals as goal

pub values_of_chunk-requires : goal.values_of_chunk-requires
values_of_chunk-requires g c =
    let r = c.args.self.now in
    let a = r.array.now in
    let parts = c.requires.parts in
    let h = c.prove_well_formed.ensures in
    let values = ap column_of_primitive c.array.ensures ∙ parts.own_values in
    let offsets = ap column_of_primitive c.array-starts.ensures ∙ parts.own_offsets in
    let count = stored_values g.T.Number.value a c.array.result.now c.as_slice-stored.result.now h values c.as_slice-stored.ensures in
    let all = ap (λ (x : Column). length x.items) parts.own_indices in
    let inside = c.requires.chunk in
    let own = own_chunk a c.array-starts.result.now (length c.as_slice-stored.result.now) c.len-count.result c.args.k h offsets count c.len-count.ensures.slots c.len-count.ensures.items (omega arith) in
    let order = own.some in
    record { unsigned = own.unsigned; range = own.range; order = omega arith; within = own.within }

pub returns : goal.returns
returns g c =
    let r = c.args.self.now in
    let a = r.array.now in
    let parts = c.requires.parts in
    let h = c.prove_well_formed.ensures in
    let values = ap column_of_primitive c.array.ensures ∙ parts.own_values in
    let offsets = ap column_of_primitive c.array-starts.ensures ∙ parts.own_offsets in
    let count = stored_values g.T.Number.value a c.array.result.now c.as_slice-stored.result.now h values c.as_slice-stored.ensures in
    let all = ap (λ (x : Column). length x.items) parts.own_indices in
    let inside = c.requires.chunk in
    own_values g.T.Number.value a c.array.result.now c.array-starts.result.now c.as_slice-stored.result.now c.values_of_chunk.result.now c.args.k h values offsets c.as_slice-stored.ensures count (omega arith) c.values_of_chunk.ensures.count c.values_of_chunk.ensures.values
