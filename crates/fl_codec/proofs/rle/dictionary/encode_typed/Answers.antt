use Rattle.std.proofs.Common.{◌≡◌, ◌≤◌, ◌*◌, ◌/◌, ◌%◌, IsTrue, length, map, arith, subst, refl, ap, sym, ◌∙◌, Ok}
use Rattle.fl_types.specs.Validities.{covers}
use Rattle.fl_codec.specs.Chunks.{chunks_of}
use Rattle.fl_codec.specs.Dictionaries.{dictionary_index}
use Rattle.fl_codec.specs.ForwardFill.{Reset, fill_forward}
use Rattle.fl_codec.specs.Parts.{items_of_primitive}
use Rattle.fl_codec.specs.Runs.{run_validity}
use Rattle.fl_codec.proofs.DictionaryLaws.{dictionaries_made}
use Rattle.fl_codec.proofs.ReferenceLaws.{length-table}
use Rattle.fl_codec.proofs.RunLaws.{covers-run_validity, ok_same}
use Rattle.fl_codec.proofs.rle.dictionary.encode_typed.Goals as goal

pub padded_validity-requires-clause-room : goal.padded_validity-requires-clause-room
padded_validity-requires-clause-room g c =
    let array = c.args.array.now in
    let all : length c.as_slice-total.result.now ≡ 1024 * chunks_of (length array.slots) = ap length (c.as_slice-total.ensures.value ∙ c.in_ok-push_chunks.ensures.indices) ∙ length-table (λ p. dictionary_index (fill_forward Reset (items_of_primitive array)) (p / 1024) (p % 1024)) (1024 * chunks_of (length array.slots)) in
    let again = c.len-2.ensures.slots in
    omega arith

pub with_validity-requires : goal.with_validity-requires
with_validity-requires g c =
    let array = c.args.array.now in
    let all : length c.as_slice-total.result.now ≡ 1024 * chunks_of (length array.slots) = ap length (c.as_slice-total.ensures.value ∙ c.in_ok-push_chunks.ensures.indices) ∙ length-table (λ p. dictionary_index (fill_forward Reset (items_of_primitive array)) (p / 1024) (p % 1024)) (1024 * chunks_of (length array.slots)) in
    let again = c.len-2.ensures.slots in
    let room : c.len-2.result ≤ length c.as_slice-total.result.now = omega arith in
    let covered : IsTrue (covers c.validity.result.now c.len-2.result) = rw (c.validity.ensures.value, again) c.validity.ensures.covers in
    subst (λ n. IsTrue (covers c.in_ok-validity.validity n)) (ap length c.as_slice-total.ensures.value)
    (rw (ok_same _ _ c.in_ok-validity.ensures) (covers-run_validity c.validity.result.now c.len-2.result (length c.as_slice-total.result.now) covered room))

pub returns : goal.returns
returns g c =
    let array = c.args.array.now in
    let chunks = chunks_of (length array.slots) in
    let all : length c.as_slice-total.result.now ≡ 1024 * chunks = ap length (c.as_slice-total.ensures.value ∙ c.in_ok-push_chunks.ensures.indices) ∙ length-table (λ p. dictionary_index (fill_forward Reset (items_of_primitive array)) (p / 1024) (p % 1024)) (1024 * chunks) in
    let validity : c.in_ok-validity.validity ≡ run_validity array.validity (length array.slots) (1024 * chunks) =
    ok_same _ _ c.in_ok-validity.ensures ∙ (ap (λ v. run_validity v c.len-2.result (length c.as_slice-total.result.now)) c.validity.ensures.value
    ∙ (ap (λ n. run_validity array.validity n (length c.as_slice-total.result.now)) c.len-2.ensures.slots ∙ ap (run_validity array.validity (length array.slots)) all)) in
    ap (λ r. Ok r) (sym (dictionaries_made array g.T.NativePType.PTYPE c.non_nullable.result c.with_validity.result c.non_nullable-2.result (map g.T.Number.value c.push_chunks.new.parts.values.items) c.push_chunks.new.parts.indices.items c.push_chunks.new.parts.offsets.items c.in_ok-validity.validity chunks
    c.requires refl c.non_nullable.ensures c.in_ok-push_chunks.ensures.values c.with_validity.ensures c.in_ok-push_chunks.ensures.indices validity c.non_nullable-2.ensures c.in_ok-push_chunks.ensures.offsets))
