-- The parts of a slice make a bit-packed array.
use Rattle.std.proofs.Common.{◌≡◌, ◌==◌, ◌+◌, ◌*◌, ◌-◌, ◌%◌, ◌<◌, ◌≤◌, ℕ, Bool, true, false, List, Option, Some, None, Result, Ok, IsTrue, length, get_or, if◌then◌else◌, refl, ap, ◌∙◌, sym, arith}
use Rattle.std.specs.Prelude.{IfSome, option_and_then}
use Rattle.std.proofs.lemmas.Bool.{eq-eqb, eqb-true}
use Rattle.fl_types.specs.Bits.{between}
use Rattle.fl_types.specs.Integers.{bits_of_type}
use Rattle.fl_types.specs.declared.dtype.PType.{PType}
use Rattle.fl_types.specs.declared.error.FastLanesError.{FastLanesError}
use Rattle.fl_types.specs.declared.validity.Validity.{Validity}
use Rattle.fl_types.specs.declared.validity.Validity.TheVariants as valid
use Rattle.fl_types.specs.Validities.{covers, validity_between}
use Rattle.fl_column.specs.Columns.{slice_primitive}
use Rattle.fl_patches.proofs.Parts.{ok_same}
use Rattle.fl_patches.specs.PatchMaps.{PatchesParts, patches_before, slice_patches}
use Rattle.fl_column.specs.Columns.{Column, numbers_of}
use Rattle.fl_column.specs.Operations.{slice_of}
use Rattle.fl_column.proofs.ItemLaws.{length-between}
use Rattle.fl_column.specs.Chunks.{chunk_count}
use Rattle.fl_patches.proofs.Slices.{get_or-between}
use Rattle.fl_bitpacking.specs.Blocks.{boundary_blocks}
use Rattle.fl_bitpacking.specs.Columns.{BitPackedParts, block_count}
use Rattle.fl_bitpacking.specs.Refusals.{AreConsistent}
use Rattle.fl_bitpacking.specs.SlicedParts.{end_block, first_block, sliced_parts}
use Rattle.fl_bitpacking.proofs.SoundParts.{AreBlocked, AreGlobal}
use Rattle.fl_bitpacking.proofs.BoundaryLaws.{above_first, length-numbers_of, numbers_of-slice, part_of_blocks, rising, within_bytes}

-- the blocks that a slice keeps
pub kept_blocks : (offset start end : ℕ) → start ≤ end → chunk_count ((offset + start) % 1024 + (end - start)) + first_block offset start ≡ end_block offset end
kept_blocks offset start end h = omega arith

pub kept_within : (offset end len : ℕ) → end ≤ len → end_block offset end ≤ chunk_count (offset + len)
kept_within offset end len h = omega arith

pub kept_order : (offset start end : ℕ) → start ≤ end → first_block offset start ≤ end_block offset end
kept_order offset start end h = omega arith

-- ---- parts of their own
-- the validity of some items
covers_part : (v : Validity) (start end len : ℕ) → start ≤ end → end ≤ len → IsTrue (covers v len) → IsTrue (covers (validity_between start end v) (end - start))
covers_part valid.NonNullable start end len o r k = refl
covers_part valid.AllValid start end len o r k = refl
covers_part valid.AllInvalid start end len o r k = refl
covers_part (valid.Array bits) start end len o r k =
    let long = eqb-true (length bits) len k in
    eq-eqb _ _ (length-between bits start end o (omega arith))

-- the patches of some items
patched_part : (patches : Option PatchesParts) (ptype : PType) (start end len : ℕ) → IfSome patches (λ p. (p.array_len ≡ len) × (p.values.ptype ≡ ptype)) → IfSome (option_and_then (slice_patches start end) patches) (λ p. (p.array_len ≡ end - start) × (p.values.ptype ≡ ptype))
patched_part None ptype start end len h = tt
patched_part (Some p) ptype start end len h = by_count (patches_before start p == patches_before end p)
  where
    by_count : (none : Bool) → IfSome {T = PatchesParts} (if none then None else Some (record { array_len = end - start; offset = p.offset + start; indices = slice_primitive (patches_before start p) (patches_before end p) p.indices; values = slice_primitive (patches_before start p) (patches_before end p) p.values; chunk_offsets = None })) (λ q. (q.array_len ≡ end - start) × (q.values.ptype ≡ ptype))
    by_count true = tt
    by_count false = (refl, h.1)

-- the parts of some items, with whatever bytes
pub consistent_slice : (p : BitPackedParts) (packed : List ℕ) (v : Validity) (patches : Option PatchesParts) (start end : ℕ) → AreConsistent p → start ≤ end → end ≤ p.len
    → ◌≡◌ {A = Result Validity FastLanesError} (Ok (validity_between start end p.validity)) (Ok v) → ◌≡◌ {A = Result (Option PatchesParts) FastLanesError} (Ok (option_and_then (slice_patches start end) p.patches)) (Ok patches)
    → AreConsistent (record { packed = packed; ptype = p.ptype; validity = v; patches = patches; offset = (p.offset + start) % 1024; len = end - start })
consistent_slice p packed v patches start end s o r valid patched =
    let few = s.fit.few in
    let all = s.few in
    let positions : (p.offset + start) % 1024 + (end - start) ≤ p.offset + p.len = omega arith in
    rw (ok_same _ _ valid, ok_same _ _ patched) (record {
      fit = record {
        offset = omega arith;
        few = omega arith;
        covers = covers_part p.validity start end p.len o r s.fit.covers;
        patched = patched_part p.patches p.ptype start end p.len s.fit.patched;
      };
      few = omega arith;
    })

-- of one width
pub global_slice : (p : BitPackedParts) (width start end : ℕ) → AreGlobal p width → start ≤ end → end ≤ p.len
    → AreConsistent (sliced_parts (128 * width * first_block p.offset start) (128 * width * end_block p.offset end) start end p)
    → AreGlobal (sliced_parts (128 * width * first_block p.offset start) (128 * width * end_block p.offset end) start end p) width
global_slice p width start end s o r fit =
    let first = first_block p.offset start in
    let last = end_block p.offset end in
    let count = chunk_count ((p.offset + start) % 1024 + (end - start)) in
    let kept = kept_blocks p.offset start end o in
    let within = kept_within p.offset end p.len r in
    let more = block_count p - last in
    let size = s.size in
    let whole : 128 * width * (last + more) ≡ 128 * width * last + 128 * width * more = grind arith in
    let total : last + more ≡ block_count p = omega arith in
    let parts : 128 * width * (count + first) ≡ 128 * width * count + 128 * width * first = grind arith in
    let at_last : 128 * width * last ≡ 128 * width * count + 128 * width * first = ap (λ n. 128 * width * n) (sym kept) ∙ parts in
    let in_all : 128 * width * block_count p ≡ 128 * width * last + 128 * width * more = ap (λ n. 128 * width * n) (sym total) ∙ whole in
    let room : 128 * width * last ≤ length p.packed = omega arith in
    let long = length-between p.packed (128 * width * first) (128 * width * last) (omega arith) room in
    record { parts = fit; narrow = s.narrow; size = long ∙ (omega arith) }

-- between boundaries
pub blocked_slice : (p : BitPackedParts) (c : Column) (start end : ℕ) → AreBlocked p c → start ≤ end → end ≤ p.len
    → AreConsistent (sliced_parts ((boundary_blocks (numbers_of c)).start (first_block p.offset start)) ((boundary_blocks (numbers_of c)).start (end_block p.offset end)) start end p)
    → AreBlocked (sliced_parts ((boundary_blocks (numbers_of c)).start (first_block p.offset start)) ((boundary_blocks (numbers_of c)).start (end_block p.offset end)) start end p) (slice_of (first_block p.offset start) (end_block p.offset end + 1) c)
blocked_slice p c start end s o r fit =
    let first = first_block p.offset start in
    let last = end_block p.offset end in
    let bs = numbers_of c in
    let bits = bits_of_type p.ptype in
    let size = length p.packed in
    let blocks = s.blocks in
    let all = s.count in
    let long = length-numbers_of c in
    let kept = kept_blocks p.offset start end o in
    let within = kept_within p.offset end p.len r in
    let order = kept_order p.offset start end o in
    let rest : first + (last - first) ≡ last = omega arith in
    let up = rising bits size bs first (last - first) blocks (omega arith) in
    let to : get_or bs first 0 ≤ get_or bs last 0 = rw rest at up in
    let low = above_first bits size bs first blocks (omega arith) in
    let room = within_bytes bits size bs last blocks (omega arith) in
    let bytes = length-between p.packed (get_or bs first 0 - get_or bs 0 0) (get_or bs last 0 - get_or bs 0 0) (omega arith) room in
    let sized : length (between (get_or bs first 0 - get_or bs 0 0) (get_or bs last 0 - get_or bs 0 0) p.packed) ≡ get_or bs last 0 - get_or bs first 0 = bytes ∙ (omega arith) in
    let few : first < length bs = omega arith in
    let part = part_of_blocks bits size bs first last blocks order (omega arith) in
    let items = length-between c.items first (last + 1) (omega arith) (omega arith) in
    let at_end : get_or (between first (last + 1) bs) (chunk_count ((p.offset + start) % 1024 + (end - start))) 0 ≡ get_or bs last 0 = get_or-between bs first (last + 1) (chunk_count ((p.offset + start) % 1024 + (end - start))) 0 (omega arith) ∙ ap (λ n. get_or bs n 0) (omega arith) in
    let at_start : get_or (between first (last + 1) bs) 0 0 ≡ get_or bs first 0 = get_or-between bs first (last + 1) 0 0 (omega arith) ∙ ap (λ n. get_or bs n 0) (omega arith) in
    record {
      parts = fit;
      typed = s.typed;
      count = items ∙ (omega arith);
      blocks = rw (numbers_of-slice c first (last + 1), sized) part;
      span = rw (numbers_of-slice c first (last + 1), at_end, at_start) (sym sized);
    }

-- the first blocks lie in the bytes
pub global_within : (p : BitPackedParts) (width k : ℕ) → AreGlobal p width → k ≤ block_count p → 128 * width * k ≤ length p.packed
global_within p width k s h =
    let more = block_count p - k in
    let size = s.size in
    let whole : 128 * width * (k + more) ≡ 128 * width * k + 128 * width * more = grind arith in
    let total : k + more ≡ block_count p = omega arith in
    let in_all : 128 * width * block_count p ≡ 128 * width * k + 128 * width * more = ap (λ n. 128 * width * n) (sym total) ∙ whole in
    omega arith

-- what a slice of one width was made of
pub global_bytes : (p : BitPackedParts) (width start end first last : ℕ) → first ≡ first_block p.offset start → last ≡ end_block p.offset end
    → sliced_parts (128 * width * first) (128 * width * last) start end p ≡ sliced_parts (128 * width * first_block p.offset start) (128 * width * end_block p.offset end) start end p
global_bytes p width start end first last e f = rw (e, f) refl
