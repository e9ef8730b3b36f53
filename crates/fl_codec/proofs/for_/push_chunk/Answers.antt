use Rattle.std.proofs.Common.{map}
use Rattle.std.proofs.lemmas.Result.{on_ok_weaker}
use Rattle.fl_codec.proofs.ChunkSlots.{full_chunk}
use Rattle.fl_codec.proofs.for_.push_chunk.Goals as goal

pub returns-in-NonNullable : goal.returns-in-NonNullable
returns-in-NonNullable g c = on_ok_weaker c.push_differences-in-NonNullable.result
    (λ added slot same before.
    full_chunk g.T.Number.value g.T.NativePType.PTYPE (g.T.Number.value c.args.reference) c.args.validity.now c.args.items.now c.chunk_of.result.now c.args.k slot (map g.T.Number.value c.args.slots.now.items) (map g.T.Number.value c.push_differences-in-NonNullable.new.slots.items)
    c.in-NonNullable.is c.requires.chunk c.chunk_of.ensures.items same before added)
    c.push_differences-in-NonNullable.ensures
