use Rattle.std.proofs.Common.{ap, length, rules, sym, ◌∙◌}
use Rattle.fl_types.specs.Values.{scalar_parts}
use Rattle.fl_column.specs.Columns.{column_of_primitive}
use Rattle.fl_codec.specs.Parts.{ByChunk, Nulls, Whole, for_parts, global_parts, run_parts}
use Rattle.fl_array.proofs.DeltaEncoding.{encoded_accepted, encoded_back}
use Rattle.fl_array.proofs.EncodedRLE.{ok_is, parts_back, parts_sound}
use Rattle.fl_array.proofs.FoREncoding.{chunked_column, few_positions, global_accepted, made_accepted}
use Rattle.fl_encode.specs.Encodings.{runs_by}
use Rattle.fl_encode.specs.Shapes.{Dictionary, Runs}
use Rattle.fl_encode.proofs.ConstantLaws.{no_constant, references_differ}
use Rattle.fl_encode.proofs.EncodingLaws.{deltas_accepted, deltas_made, indices_refused, one_reference_made, over_references_made, references_made, runs_accepted, runs_encoded, runs_made, runs_passed_on, values_refused}
use Rattle.fl_encode.proofs.encoding.+encode.Goals as goal

-- ---- one level
pub encode-returns-in-FoRChunked : goal.encode-returns-in-FoRChunked
encode-returns-in-FoRChunked t c = rw c.in-FoRChunked.is c.encode_chunked_for.ensures

-- ---- frames of reference
pub encode_for-encode_over_reference-requires : goal.encode_for-encode_over_reference-requires
encode_for-encode_over_reference-requires t c = (search rules, global_accepted c.args.order c.args.array.now (global_parts c.in_ok-child.field-0) c.in_ok-child.ensures)

pub encode_for-returns : goal.encode_for-returns
encode_for-returns t c =
    one_reference_made c.args.order c.args.scheme.now c.args.array.now (global_parts c.in_ok-child.field-0) c.encode_over_reference.result c.in_ok-child.ensures
    (c.global_for_by_and_back.ensures (global_parts c.in_ok-child.field-0) c.in_ok-child.ensures) c.encode_over_reference.ensures

pub encode_over_references-over_references-requires-clause-chunked : goal.encode_over_references-over_references-requires-clause-chunked
encode_over_references-over_references-requires-clause-chunked t c = no_constant c.in_ok-references.references (column_of_primitive c.args.others) c.in_ok-references.ensures.stands_for c.requires.differ

pub encode_over_references-returns : goal.encode_over_references-returns
encode_over_references-returns t c =
    over_references_made c.args.encoded.now c.args.references.now c.args.child c.args.others c.in_ok-encoded.encoded c.in_ok-references.references c.over_references.result c.in_ok-encoded.ensures c.in_ok-references.ensures c.over_references.ensures

pub encode_chunked_for-encode_over_reference-requires : goal.encode_chunked_for-encode_over_reference-requires
encode_chunked_for-encode_over_reference-requires t c = (
  search rules,
  made_accepted c.args.order c.args.array.now (Whole (global_parts c.in-Global.field-0)) (ok_is _ _ c.in_ok-child.ensures ∙ ap for_parts c.in-Global.is) c.validity-validity.ensures.covers (few_positions (length c.args.array.now.slots) c.prove_few.ensures),
)

pub encode_chunked_for-encode_over_references-requires : goal.encode_chunked_for-encode_over_references-requires
encode_chunked_for-encode_over_references-requires t c =
    let is = ok_is _ _ c.in_ok-child.ensures ∙ ap for_parts c.in-Chunked.is in (
      search rules,
      (
        made_accepted c.args.order c.args.array.now (ByChunk c.in-Chunked.child c.in-Chunked.others) is c.validity-validity.ensures.covers (few_positions (length c.args.array.now.slots) c.prove_few.ensures),
        references_differ c.args.order c.args.array.now c.in-Chunked.child c.in-Chunked.others is,
      ),
    )

pub encode_chunked_for-over_nulls-requires : goal.encode_chunked_for-over_nulls-requires
encode_chunked_for-over_nulls-requires t c =
    made_accepted c.args.order c.args.array.now (Nulls c.in-Nulls.child (scalar_parts c.in-Nulls.reference)) (ok_is _ _ c.in_ok-child.ensures ∙ ap for_parts c.in-Nulls.is) c.validity-validity.ensures.covers (few_positions (length c.args.array.now.slots) c.prove_few.ensures)

pub encode_chunked_for-returns-in-Chunked : goal.encode_chunked_for-returns-in-Chunked
encode_chunked_for-returns-in-Chunked t c =
    let is = ok_is _ _ c.in_ok-child.ensures ∙ ap for_parts c.in-Chunked.is in
    references_made c.args.order c.args.encoded.now c.args.references.now c.args.array.now c.in-Chunked.child c.in-Chunked.others c.encode_over_references.result is
    (chunked_column c.args.order c.args.array.now c.in-Chunked.child c.in-Chunked.others is c.chunked_for_by_and_back.ensures) c.encode_over_references.ensures

-- ---- deltas
pub encode_delta-over_deltas-requires : goal.encode_delta-over_deltas-requires
encode_delta-over_deltas-requires t c =
    let plain = encoded_accepted c.args.array.now c.in_ok-plain_bases.plain_bases c.in_ok-plain_bases.plain_deltas c.in_ok-validity.validity c.len-len.result (ok_is _ _ c.in_ok-plain_bases.ensures) (sym (ok_is _ _ c.in_ok-validity.ensures) ∙ c.validity.ensures.value) c.len-len.ensures.slots c.validity.ensures.covers in
    deltas_accepted c.in_ok-plain_bases.plain_bases c.in_ok-plain_bases.plain_deltas c.in_ok-validity.validity c.len-len.result c.in_ok-bases.bases c.in_ok-deltas.deltas c.in_ok-bases.ensures.stands_for c.in_ok-deltas.ensures.stands_for plain

pub encode_delta-returns : goal.encode_delta-returns
encode_delta-returns t c =
    let parts = ok_is _ _ c.in_ok-plain_bases.ensures in
    let valid = sym (ok_is _ _ c.in_ok-validity.ensures) ∙ c.validity.ensures.value in
    deltas_made c.args.bases.now c.args.deltas.now c.args.array.now c.in_ok-plain_bases.plain_bases c.in_ok-plain_bases.plain_deltas c.in_ok-validity.validity c.len-len.result c.in_ok-bases.bases c.in_ok-deltas.deltas c.over_deltas.result parts valid c.len-len.ensures.slots
    (encoded_back c.args.array.now c.in_ok-plain_bases.plain_bases c.in_ok-plain_bases.plain_deltas c.in_ok-validity.validity c.len-len.result parts valid c.len-len.ensures.slots c.deltas_and_back.ensures) c.in_ok-bases.ensures c.in_ok-deltas.ensures c.over_deltas.ensures

-- ---- runs
pub encode_runs-returns-in_err-indices : goal.encode_runs-returns-in_err-indices
encode_runs-returns-in_err-indices t c =
    runs_passed_on c.args.values.now c.args.indices.now c.args.offsets.now (run_parts c.args.runs) c.args.len c.from_residual-in_err-indices.result c.in_err-indices.field-0.0 c.from_residual-in_err-indices.ensures.1
    (indices_refused c.args.values.now c.args.indices.now c.args.offsets.now (run_parts c.args.runs) c.args.len c.in_ok-values.values c.in_err-indices.field-0.0 c.in_ok-values.ensures c.in_err-indices.ensures)

pub encode_runs-returns-in_err-values : goal.encode_runs-returns-in_err-values
encode_runs-returns-in_err-values t c =
    runs_passed_on c.args.values.now c.args.indices.now c.args.offsets.now (run_parts c.args.runs) c.args.len c.from_residual.result c.in_err-values.field-0.0 c.from_residual.ensures.1
    (values_refused c.args.values.now c.args.indices.now c.args.offsets.now (run_parts c.args.runs) c.args.len c.in_err-values.field-0.0 c.in_err-values.ensures)

pub encode_runs-over_runs-requires : goal.encode_runs-over_runs-requires
encode_runs-over_runs-requires t c =
    let runs = c.args.runs in
    runs_accepted runs.values runs.indices runs.offsets c.args.len c.in_ok-values.values c.in_ok-indices.indices c.in_ok-offsets.offsets c.in_ok-values.ensures.stands_for c.in_ok-indices.ensures.stands_for c.in_ok-offsets.ensures.stands_for c.requires

pub encode_runs-returns : goal.encode_runs-returns
encode_runs-returns t c =
    runs_made c.args.values.now c.args.indices.now c.args.offsets.now (run_parts c.args.runs) c.args.len c.in_ok-values.values c.in_ok-indices.indices c.in_ok-offsets.offsets c.over_runs.result c.in_ok-values.ensures c.in_ok-indices.ensures c.in_ok-offsets.ensures c.over_runs.ensures

pub encode_rle-encode_runs-requires : goal.encode_rle-encode_runs-requires
encode_rle-encode_runs-requires t c =
    let runs = c.in_ok-runs.runs in (
      search rules,
      parts_sound (runs_by Runs c.args.array.now) runs.values runs.indices runs.offsets (length c.args.array.now.slots) _ (ok_is _ _ (sym c.in_ok-runs.ensures)) c.len-len.ensures.slots c.validity-values.ensures.covers c.validity-indices.ensures.covers c.validity-offsets.ensures.covers c.runs_and_back.ensures.sound,
    )

pub encode_rle-returns : goal.encode_rle-returns
encode_rle-returns t c =
    let runs = c.in_ok-runs.runs in
    let parts = ok_is _ _ (sym c.in_ok-runs.ensures) in
    let sound = parts_sound (runs_by Runs c.args.array.now) runs.values runs.indices runs.offsets (length c.args.array.now.slots) _ parts c.len-len.ensures.slots c.validity-values.ensures.covers c.validity-indices.ensures.covers c.validity-offsets.ensures.covers c.runs_and_back.ensures.sound in
    runs_encoded Runs c.args.values.now c.args.indices.now c.args.offsets.now c.args.array.now (run_parts runs) c.len-len.result c.encode_runs.result parts c.len-len.ensures.slots
    (parts_back (runs_by Runs c.args.array.now) c.args.array.now runs.values runs.indices runs.offsets _ parts c.len-len.ensures.slots sound c.runs_and_back.ensures.column) c.encode_runs.ensures

pub encode_dict-encode_runs-requires : goal.encode_dict-encode_runs-requires
encode_dict-encode_runs-requires t c =
    let runs = c.in_ok-runs.runs in (
      search rules,
      parts_sound (runs_by Dictionary c.args.array.now) runs.values runs.indices runs.offsets (length c.args.array.now.slots) _ (ok_is _ _ (sym c.in_ok-runs.ensures)) c.len-len.ensures.slots c.validity-values.ensures.covers c.validity-indices.ensures.covers c.validity-offsets.ensures.covers c.dictionaries_and_back.ensures.sound,
    )

pub encode_dict-returns : goal.encode_dict-returns
encode_dict-returns t c =
    let runs = c.in_ok-runs.runs in
    let parts = ok_is _ _ (sym c.in_ok-runs.ensures) in
    let sound = parts_sound (runs_by Dictionary c.args.array.now) runs.values runs.indices runs.offsets (length c.args.array.now.slots) _ parts c.len-len.ensures.slots c.validity-values.ensures.covers c.validity-indices.ensures.covers c.validity-offsets.ensures.covers c.dictionaries_and_back.ensures.sound in
    runs_encoded Dictionary c.args.values.now c.args.indices.now c.args.offsets.now c.args.array.now (run_parts runs) c.len-len.result c.encode_runs.result parts c.len-len.ensures.slots
    (parts_back (runs_by Dictionary c.args.array.now) c.args.array.now runs.values runs.indices runs.offsets _ parts c.len-len.ensures.slots sound c.dictionaries_and_back.ensures.column) c.encode_runs.ensures
