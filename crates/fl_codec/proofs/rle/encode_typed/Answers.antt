use Rattle.std.proofs.Common.{◌≡◌, ◌≤◌, ◌*◌, ◌/◌, ◌%◌, IsTrue, length, map, arith, subst, ap, sym, ◌∙◌, Ok}
use Rattle.fl_types.specs.Validities.{covers}
use Rattle.fl_codec.specs.Chunks.{chunks_of}
use Rattle.fl_codec.specs.ForwardFill.{Reset, fill_forward}
use Rattle.fl_codec.specs.Parts.{items_of_primitive}
use Rattle.fl_codec.specs.Runs.{run_index, run_validity}
use Rattle.fl_codec.proofs.ReferenceLaws.{length-table}
use Rattle.fl_codec.proofs.RunLaws.{covers-run_validity, ok_same, runs_made}
use Rattle.fl_codec.proofs.rle.encode_typed.Goals as goal

pub padded_validity-requires-clause-room : goal.padded_validity-requires-clause-room
padded_validity-requires-clause-room g c =
    let items = items_of_primitive c.args.array.now in
    let all : length c.as_slice-total.result.now ≡ 1024 * c.chunk_count-chunks.result = ap length (c.as_slice-total.ensures.value ∙ c.in_ok-push_chunks.ensures.indices) ∙ length-table (λ p. run_index (fill_forward Reset items) (p / 1024) (p % 1024)) (1024 * c.chunk_count-chunks.result) in
    let chunks = c.chunk_count-chunks.ensures in
    let size = c.len.ensures.slots in
    let again = c.len-2.ensures.slots in
    omega arith

pub with_validity-requires : goal.with_validity-requires
with_validity-requires g c =
    let all : length c.as_slice-total.result.now ≡ 1024 * c.chunk_count-chunks.result = ap length (c.as_slice-total.ensures.value ∙ c.in_ok-push_chunks.ensures.indices) ∙ length-table (λ p. run_index (fill_forward Reset (items_of_primitive c.args.array.now)) (p / 1024) (p % 1024)) (1024 * c.chunk_count-chunks.result) in
    let chunks = c.chunk_count-chunks.ensures in
    let size = c.len.ensures.slots in
    let again = c.len-2.ensures.slots in
    let room : c.len-2.result ≤ length c.as_slice-total.result.now = omega arith in
    let covered : IsTrue (covers c.validity.result.now c.len-2.result) = rw (c.validity.ensures.value, again) c.validity.ensures.covers in
    subst (λ n. IsTrue (covers c.in_ok-validity.validity n)) (ap length c.as_slice-total.ensures.value)
    (rw (ok_same _ _ c.in_ok-validity.ensures) (covers-run_validity c.validity.result.now c.len-2.result (length c.as_slice-total.result.now) covered room))

pub returns : goal.returns
returns g c =
    let array = c.args.array.now in
    let all : length c.as_slice-total.result.now ≡ 1024 * c.chunk_count-chunks.result = ap length (c.as_slice-total.ensures.value ∙ c.in_ok-push_chunks.ensures.indices) ∙ length-table (λ p. run_index (fill_forward Reset (items_of_primitive array)) (p / 1024) (p % 1024)) (1024 * c.chunk_count-chunks.result) in
    let chunks = c.chunk_count-chunks.ensures in
    let size = c.len.ensures.slots in
    let count : c.chunk_count-chunks.result ≡ chunks_of (length array.slots) = omega arith in
    let validity : c.in_ok-validity.validity ≡ run_validity array.validity (length array.slots) (1024 * c.chunk_count-chunks.result) =
    ok_same _ _ c.in_ok-validity.ensures ∙ (ap (λ v. run_validity v c.len-2.result (length c.as_slice-total.result.now)) c.validity.ensures.value
    ∙ (ap (λ n. run_validity array.validity n (length c.as_slice-total.result.now)) c.len-2.ensures.slots ∙ ap (run_validity array.validity (length array.slots)) all)) in
    ap (λ r. Ok r) (sym (runs_made array g.T.NativePType.PTYPE c.non_nullable.result c.with_validity.result c.non_nullable-2.result (map g.T.Number.value c.push_chunks.new.values.items) c.push_chunks.new.indices.items c.push_chunks.new.offsets.items c.in_ok-validity.validity c.chunk_count-chunks.result
    c.requires count c.non_nullable.ensures c.in_ok-push_chunks.ensures.values c.with_validity.ensures c.in_ok-push_chunks.ensures.indices validity c.non_nullable-2.ensures c.in_ok-push_chunks.ensures.offsets))
