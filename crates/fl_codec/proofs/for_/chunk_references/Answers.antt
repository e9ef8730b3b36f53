use Rattle.std.proofs.Common.{◌≡◌, ◌<◌, map, length, arith, option_map, sym, ap, ◌∙◌}
use Rattle.fl_types.specs.Bits.{tabulate}
use Rattle.fl_types.specs.Validities.{items_of}
use Rattle.fl_codec.specs.Chunks.{chunks_of}
use Rattle.fl_codec.specs.FoRColumns.{chunk_leasts, reading, reference_of_chunk}
use Rattle.fl_codec.proofs.ReferenceLaws.{length-items_read, length_of_values, length-table, reference_at, table_push, unwrap_or-option_map}
use Rattle.fl_codec.proofs.for_.chunk_references.Goals as goal

pub loop-k-preserved : goal.loop-k-preserved
loop-k-preserved g c =
    let value = g.T.Number.value in
    let read = reading c.args.order g.T.NativePType.PTYPE in
    let items = items_of c.args.validity.now (map value c.args.items.now) in
    let each = length-items_read value c.args.validity.now c.args.items.now c.requires.covers in
    let within : c.loop-k.k < chunks_of (length items) = rw each (omega arith) in
    let taken = ap value c.unwrap_or-reference-in-loop-k.ensures ∙ unwrap_or-option_map value c.least_in_chunk.result c.loop-k.reference in
    let here = reference_at read items c.loop-k.k (value c.loop-k.reference) (value c.unwrap_or-reference-in-loop-k.result) (option_map value c.least_in_chunk.result) within (sym c.least_in_chunk.ensures) c.loop-k.invariant.last taken in
    record {
      last = here;
      references = table_push value (reference_of_chunk (chunk_leasts read items)) c.push.new.self.items c.loop-k.references.items c.unwrap_or-reference-in-loop-k.result c.loop-k.k c.in_ok-push.ensures.items c.loop-k.invariant.references here;
    }

pub returns-clause-references : goal.returns-clause-references
returns-clause-references g c =
    let value = g.T.Number.value in
    let read = reading c.args.order g.T.NativePType.PTYPE in
    let items = items_of c.args.validity.now (map value c.args.items.now) in
    let each = length-items_read value c.args.validity.now c.args.items.now c.requires.covers in
    let all : c.loop-k.k ≡ chunks_of (length items) = rw each (omega arith) in
    c.loop-k.invariant.references ∙ ap (tabulate (reference_of_chunk (chunk_leasts read items))) all

pub returns-clause-long : goal.returns-clause-long
returns-clause-long g c =
    let value = g.T.Number.value in
    let read = reading c.args.order g.T.NativePType.PTYPE in
    let items = items_of c.args.validity.now (map value c.args.items.now) in
    let same = length_of_values value c.loop-k.references.items (tabulate (reference_of_chunk (chunk_leasts read items)) c.loop-k.k) c.loop-k.invariant.references in
    let all = length-table (reference_of_chunk (chunk_leasts read items)) c.loop-k.k in
    omega arith
