use Rattle.std.proofs.Common.{◌∙◌, length, sym, arith}
use Rattle.std.proofs.lemmas.List.{length-map}
use Rattle.fl_array.proofs.ReadRuns.{chunk_shown, names_below}
use Rattle.fl_array.proofs.reader.runs.read_chunk.Goals as goal

pub write_run_items-requires-clause-some : goal.write_run_items-requires-clause-some
write_run_items-requires-clause-some g c =
    let some = c.values_of_chunk-own.ensures.some in
    omega (arith, length-map c.values_of_chunk-own.result.now g.T.Number.value)

pub write_run_items-requires-clause-named : goal.write_run_items-requires-clause-named
write_run_items-requires-clause-named g c named i below =
    let r = c.args.runs.now in
    let parts = c.requires.parts in
    let count = sym (length-map c.values_of_chunk-own.result.now g.T.Number.value) ∙ c.values_of_chunk-own.ensures.count in
    names_below g.I.Number.value r.array.now r.indices.column c.read_items.new.items c.args.at (length c.args.items.now) i (length c.values_of_chunk-own.result.now) c.prove_well_formed.ensures parts.own_indices parts.no_nulls (c.requires.named named) c.requires.range c.requires.one_chunk below
    (λ q z low e. c.read_items.ensures q z (omega arith) e) count

pub returns : goal.returns
returns g c i below =
    let r = c.args.runs.now in
    chunk_shown g.T.Number.value g.I.Number.value r.array.now r.indices.column c.values_of_chunk-own.result.now c.write_run_items.new.items c.read_items.new.items c.args.at (length c.args.items.now) i c.prove_well_formed.ensures
    c.requires.parts.own_indices c.values_of_chunk-own.ensures c.requires.range c.requires.one_chunk below (λ q z low e. c.read_items.ensures q z (omega arith) e) (c.write_run_items.ensures i below)
