use Rattle.std.proofs.Common.{◌≡◌, ◌<◌, ◌*◌, ◌/◌, ◌∙◌, None, map, length, min, get_or, arith, option_map, sym, ap}
use Rattle.fl_types.specs.Bits.{tabulate}
use Rattle.fl_types.specs.Validities.{items_of}
use Rattle.fl_codec.specs.Chunks.{chunks_of}
use Rattle.fl_codec.specs.FoRColumns.{chunk_leasts, minus_reference, reading, reference_of_chunk}
use Rattle.fl_codec.proofs.ChunkSlots.{chunk_slot, slots_of_chunks}
use Rattle.fl_codec.proofs.ReferenceLaws.{length-items_read, length-table, length_of_values, reference_at, table_push, unwrap_or-option_map}
use Rattle.fl_codec.proofs.for_.less_leasts.Goals as goal

pub loop-k-preserved : goal.loop-k-preserved
loop-k-preserved g c =
    let value = g.T.Number.value in
    let t = g.T.NativePType.PTYPE in
    let read = reading c.args.order t in
    let items = items_of c.args.validity.now (map value c.args.items.now) in
    let k = c.loop-k.k in
    let each = length-items_read value c.args.validity.now c.args.items.now c.requires.covers in
    let within : k < chunks_of (length items) = rw each (omega arith) in
    let taken = ap value c.unwrap_or-reference-in-loop-k.ensures ∙ unwrap_or-option_map value c.least_in_chunk.result c.loop-k.reference in
    let here = reference_at read items k (value c.loop-k.reference) (value c.unwrap_or-reference-in-loop-k.result) (option_map value c.least_in_chunk.result) within (sym c.least_in_chunk.ensures) c.loop-k.invariant.last taken in
    let starts : min (1024 * k) (length c.args.items.now) ≡ 1024 * k = omega arith in
    record {
      last = here;
      references = table_push value (reference_of_chunk (chunk_leasts read items)) c.push.new.self.items c.loop-k.references.items c.unwrap_or-reference-in-loop-k.result k c.in_ok-push.ensures.items c.loop-k.invariant.references here;
      slots = c.in_ok-push_chunk.ensures (chunk_slot read t items) (λ i above below.
          (let place : i / 1024 ≡ k = omega arith in
          ap (λ j. minus_reference t (reference_of_chunk (chunk_leasts read items) j) (get_or items i None)) place ∙ ap (λ r. minus_reference t r (get_or items i None)) (sym here))) (rw starts at c.loop-k.invariant.slots);
    }

pub push_chunk-requires-clause-start : goal.push_chunk-requires-clause-start
push_chunk-requires-clause-start g c =
    let value = g.T.Number.value in
    let items = items_of c.args.validity.now (map value c.args.items.now) in
    let slot = chunk_slot (reading c.args.order g.T.NativePType.PTYPE) g.T.NativePType.PTYPE items in
    let starts : min (1024 * c.loop-k.k) (length c.args.items.now) ≡ 1024 * c.loop-k.k = omega arith in
    length_of_values value c.loop-k.slots.items (tabulate slot (min (1024 * c.loop-k.k) (length c.args.items.now))) c.loop-k.invariant.slots ∙ (length-table slot (min (1024 * c.loop-k.k) (length c.args.items.now)) ∙ starts)

pub returns-clause-references : goal.returns-clause-references
returns-clause-references g c =
    let value = g.T.Number.value in
    let read = reading c.args.order g.T.NativePType.PTYPE in
    let items = items_of c.args.validity.now (map value c.args.items.now) in
    let each = length-items_read value c.args.validity.now c.args.items.now c.requires.covers in
    let all : c.loop-k.k ≡ chunks_of (length items) = rw each (omega arith) in
    c.loop-k.invariant.references ∙ ap (tabulate (reference_of_chunk (chunk_leasts read items))) all

pub returns-clause-slots : goal.returns-clause-slots
returns-clause-slots g c =
    let value = g.T.Number.value in
    let t = g.T.NativePType.PTYPE in
    let read = reading c.args.order t in
    let items = items_of c.args.validity.now (map value c.args.items.now) in
    let each : length items ≡ length c.args.items.now = length-items_read value c.args.validity.now c.args.items.now c.requires.covers in
    let all : min (1024 * c.loop-k.k) (length c.args.items.now) ≡ length items = omega arith in
    c.loop-k.invariant.slots ∙ (ap (tabulate (chunk_slot read t items)) all ∙ slots_of_chunks read t items)
