use Rattle.std.proofs.Common.{◌≤◌, map, length, arith, sym, ◌∙◌}
use Rattle.fl_types.specs.Validities.{items_of}
use Rattle.fl_codec.specs.Chunks.{chunk, chunks_of}
use Rattle.fl_codec.specs.FoRColumns.{chunk_leasts, least_by, reading}
use Rattle.fl_codec.proofs.ReferenceLaws.{first_least_at, first_past, length-items_read, length-table}
use Rattle.fl_codec.proofs.for_.first_least.Goals as goal

pub returns-in-Some : goal.returns-in-Some
returns-in-Some g c =
    let read = reading c.args.order g.T.NativePType.PTYPE in
    let items = items_of c.args.validity.now (map g.T.Number.value c.args.items.now) in
    let each = length-items_read g.T.Number.value c.args.validity.now c.args.items.now c.requires.covers in
    let found = rw c.in-Some.is at c.least_in_chunk.ensures in
    let here = first_least_at read items c.loop-k.k _ (rw each (omega arith)) (sym found) in
    sym (sym c.loop-k.invariant ∙ here)

pub loop-k-preserved : goal.loop-k-preserved
loop-k-preserved g c =
    let read = reading c.args.order g.T.NativePType.PTYPE in
    let items = items_of c.args.validity.now (map g.T.Number.value c.args.items.now) in
    let each = length-items_read g.T.Number.value c.args.validity.now c.args.items.now c.requires.covers in
    let found = rw c.in_default.is at c.least_in_chunk.ensures in
    let here = first_least_at read items c.loop-k.k _ (rw each (omega arith)) (sym found) in
    sym here ∙ c.loop-k.invariant

pub returns : goal.returns
returns g c =
    let read = reading c.args.order g.T.NativePType.PTYPE in
    let items = items_of c.args.validity.now (map g.T.Number.value c.args.items.now) in
    let each = length-items_read g.T.Number.value c.args.validity.now c.args.items.now c.requires.covers in
    let long = length-table (λ k. least_by read (chunk k items)) (chunks_of (length items)) in
    let past : length (chunk_leasts read items) ≤ c.loop-k.k = rw (long, each) (omega arith) in
    sym (first_past (chunk_leasts read items) c.loop-k.k past) ∙ c.loop-k.invariant
