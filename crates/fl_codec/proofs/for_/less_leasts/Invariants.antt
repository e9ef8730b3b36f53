use Rattle.std.proofs.Common.{◌≡◌, ◌*◌, pos, length, map, min, take, unwrap_or}
use Rattle.fl_types.specs.Bits.{tabulate}
use Rattle.fl_types.specs.Validities.{items_of}
use Rattle.fl_codec.specs.ForwardFill.{first_some, last_some}
use Rattle.fl_codec.specs.FoRColumns.{chunk_leasts, reading, reference_of_chunk}
use Rattle.fl_codec.proofs.ChunkSlots.{chunk_slot}
use Rattle.fl_codec.proofs.for_.less_leasts.Given as goal

-- the references and the slots so far
abbrev pub invariant-loop-k : goal.invariant-loop-k
invariant-loop-k g l =
    let value = g.T.Number.value in
    let read = reading l.order g.T.NativePType.PTYPE in
    let items = items_of l.validity (map value l.items) in
    let leasts = chunk_leasts read items in record {
      last : value l.reference ≡ unwrap_or (last_some (take l.k leasts)) (unwrap_or (first_some leasts) (pos 0));
      references : map value l.references.items ≡ tabulate (reference_of_chunk leasts) l.k;
      slots : map value l.slots.items ≡ tabulate (chunk_slot read g.T.NativePType.PTYPE items) (min (1024 * l.k) (length l.items));
    }
