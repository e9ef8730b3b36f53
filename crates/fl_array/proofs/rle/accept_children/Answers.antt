use Rattle.std.proofs.Common.{◌≡◌, None, Some, length, refl, sym, ◌∙◌}
use Rattle.fl_types.proofs.Refused.{no_memory_there, only_memory}
use Rattle.fl_codec.specs.RunRefusals.{rle_refusal}
use Rattle.fl_array.specs.Trees.{column}
use Rattle.fl_types.specs.declared.error.FastLanesError.TheVariants.{RunOffsets}
use Rattle.fl_array.proofs.AcceptedRLE.{are_decoded, are_read, judged_numbers}
use Rattle.fl_array.proofs.EmptyChunks.{refused_by_offsets}
use Rattle.fl_array.proofs.Refused.{Refuses_same}
use Rattle.fl_array.proofs.rle.accept_children.Goals as goal

pub returns-then-has_empty_chunk : goal.returns-then-has_empty_chunk
returns-then-has_empty_chunk c =
    let types = sym c.refusal_by_types.ensures ∙ c.in_default.is in
    let empty = c.has_empty_chunk.ensures c.if-has_empty_chunk.true (length (column c.args.values.now).items) in
    let refused : rle_refusal (column c.args.values.now) (column c.args.indices.now) (column c.args.offsets.now) c.args.offset c.args.len ≡ Some RunOffsets = refused_by_offsets (column c.args.values.now) (column c.args.indices.now) (column c.args.offsets.now) c.args.offset c.args.len types empty in
    rw refused (Refuses_same _ RunOffsets)

pub returns-in_err-starts : goal.returns-in_err-starts
returns-in_err-starts c =
    let read = are_read (column c.args.values.now) (column c.args.indices.now) (column c.args.offsets.now) c.args.offset c.args.len (sym c.refusal_by_types.ensures ∙ c.in_default.is) in
    no_memory_there _ _ _ _ c.from_residual-in_err-starts.ensures.1 (only_memory _ _ (rw read.offsets at c.in_err-starts.ensures))

pub numbers_refusal-requires-clause-unsigned : goal.numbers_refusal-requires-clause-unsigned
numbers_refusal-requires-clause-unsigned c =
    let decoded = are_decoded (column c.args.values.now) (column c.args.indices.now) (column c.args.offsets.now) c.in_ok-names.names c.in_ok-starts.starts c.args.offset c.args.len (sym c.refusal_by_types.ensures ∙ c.in_default.is) c.in_ok-names.ensures c.in_ok-starts.ensures c.validity-names.ensures.covers c.validity-starts.ensures.covers in
    decoded.unsigned

pub numbers_refusal-requires-clause-whole : goal.numbers_refusal-requires-clause-whole
numbers_refusal-requires-clause-whole c =
    let decoded = are_decoded (column c.args.values.now) (column c.args.indices.now) (column c.args.offsets.now) c.in_ok-names.names c.in_ok-starts.starts c.args.offset c.args.len (sym c.refusal_by_types.ensures ∙ c.in_default.is) c.in_ok-names.ensures c.in_ok-starts.ensures c.validity-names.ensures.covers c.validity-starts.ensures.covers in
    decoded.whole

pub returns-in-Some-numbers_refusal : goal.returns-in-Some-numbers_refusal
returns-in-Some-numbers_refusal c =
    let decoded = are_decoded (column c.args.values.now) (column c.args.indices.now) (column c.args.offsets.now) c.in_ok-names.names c.in_ok-starts.starts c.args.offset c.args.len (sym c.refusal_by_types.ensures ∙ c.in_default.is) c.in_ok-names.ensures c.in_ok-starts.ensures c.validity-names.ensures.covers c.validity-starts.ensures.covers in
    let judged = judged_numbers (column c.args.values.now) (column c.args.indices.now) (column c.args.offsets.now) c.in_ok-names.names c.in_ok-starts.starts c.args.offset c.args.len (sym c.refusal_by_types.ensures ∙ c.in_default.is) decoded in
    let refused : rle_refusal (column c.args.values.now) (column c.args.indices.now) (column c.args.offsets.now) c.args.offset c.args.len ≡ Some c.in-Some-numbers_refusal.refusal = sym judged ∙ (rw c.len.ensures at (sym c.numbers_refusal.ensures) ∙ c.in-Some-numbers_refusal.is) in
    rw refused (Refuses_same _ c.in-Some-numbers_refusal.refusal)

pub returns : goal.returns
returns c =
    let decoded = are_decoded (column c.args.values.now) (column c.args.indices.now) (column c.args.offsets.now) c.in_ok-names.names c.in_ok-starts.starts c.args.offset c.args.len (sym c.refusal_by_types.ensures ∙ c.in_default.is) c.in_ok-names.ensures c.in_ok-starts.ensures c.validity-names.ensures.covers c.validity-starts.ensures.covers in
    let judged = judged_numbers (column c.args.values.now) (column c.args.indices.now) (column c.args.offsets.now) c.in_ok-names.names c.in_ok-starts.starts c.args.offset c.args.len (sym c.refusal_by_types.ensures ∙ c.in_default.is) decoded in
    let none : rle_refusal (column c.args.values.now) (column c.args.indices.now) (column c.args.offsets.now) c.args.offset c.args.len ≡ None = sym judged ∙ (rw c.len.ensures at (sym c.numbers_refusal.ensures) ∙ c.in-None.is) in
    rw none refl
