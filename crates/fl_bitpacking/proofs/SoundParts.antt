-- What is known of parts that make a bit-packed array.
use Rattle.std.proofs.Common.{◌≡◌, ◌==◌, ◌+◌, ◌*◌, ◌-◌, ◌<◌, ◌≤◌, ◌^◌, ℕ, zero, suc, Bool, true, false, not, length, nat_le, nat_lt, slice_index, Option, Some, None, IfSome, refl, ap, ◌∙◌, sym, if◌then◌else◌, arith}
use Rattle.std.proofs.lemmas.Bool.{eqb-true, leb-false, eq-eqb, le-ltb, ltb-false, lt-leb}
use Rattle.fl_types.specs.declared.error.FastLanesError.{FastLanesError}
use Rattle.fl_types.specs.declared.error.FastLanesError.TheVariants.{OffsetTooLarge, LengthOverflow, WidthTooLarge, ValidityLength, PatchType, PatchLength, PackedLength, BlockOffsetsType, BlockOffsetsCount, BlockBoundary, BlockSpan}
use Rattle.fl_types.specs.declared.dtype.PType.{PType}
use Rattle.fl_types.specs.declared.dtype.PType.TheVariants.{U8, U16, U32, U64, I8, I16, I32, I64}
use Rattle.fl_types.specs.Integers.{bits_of_type, code_of, same_ptype}
use Rattle.fl_types.specs.Types.{is_index_type}
use Rattle.fl_types.specs.Validities.{covers}
use Rattle.fl_column.specs.Columns.{Column, numbers_of, option_all}
use Rattle.fl_patches.specs.PatchMaps.{PatchesParts}
use Rattle.fl_column.specs.Chunks.{chunk_count}
use Rattle.fl_bitpacking.specs.Blocks.{are_blocks}
use Rattle.fl_bitpacking.specs.Columns.{BitPackedParts, block_count}
use Rattle.fl_bitpacking.specs.Refusals.{AreConsistent, blocked_refusal, boundaries_refusal, validity_and_patches_refusal, block_offsets_refusal, global_refusal, otherwise, positions_refusal}

-- ---- reasons one after the other
pub neither : (a b : Option FastLanesError) → otherwise a b ≡ None → (a ≡ None) × (b ≡ None)
neither None b h = (refl, h)
neither (Some e) b h = cc

pub both_none : (a b : Option FastLanesError) → a ≡ None → b ≡ None → otherwise a b ≡ None
both_none a b e f = rw (e, f) refl

passed : (b : Bool) (e : FastLanesError) → (if b then Some e else None) ≡ None → b ≡ false
passed true e h = cc
passed false e h = refl

passed_not : (b : Bool) (e : FastLanesError) → (if not b then Some e else None) ≡ None → b ≡ true
passed_not true e h = refl
passed_not false e h = cc

two_passed : (b d : Bool) (e f : FastLanesError) → (if b then Some e else if d then Some f else None) ≡ None → (b ≡ false) × (d ≡ false)
two_passed true d e f h = cc
two_passed false true e f h = cc
two_passed false false e f h = (refl, refl)

two_not : (b d : Bool) (e f : FastLanesError) → (if not b then Some e else if not d then Some f else None) ≡ None → (b ≡ true) × (d ≡ true)
two_not true true e f h = (refl, refl)
two_not true false e f h = cc
two_not false d e f h = cc

three_not : (a b d : Bool) (e f g : FastLanesError) → (if not a then Some e else if not b then Some f else if not d then Some g else None) ≡ None → (a ≡ true) × (b ≡ true) × (d ≡ true)
three_not true true true e f g h = (refl, refl, refl)
three_not true true false e f g h = cc
three_not true false d e f g h = cc
three_not false b d e f g h = cc

-- ---- types
type_of_code : ℕ → PType
type_of_code zero = U8
type_of_code (suc zero) = U16
type_of_code (suc (suc zero)) = U32
type_of_code (suc (suc (suc zero))) = U64
type_of_code (suc (suc (suc (suc zero)))) = I8
type_of_code (suc (suc (suc (suc (suc zero))))) = I16
type_of_code (suc (suc (suc (suc (suc (suc zero)))))) = I32
type_of_code (suc (suc (suc (suc (suc (suc (suc n))))))) = I64

code_back : (p : PType) → type_of_code (code_of p) ≡ p
unfolding type_of_code
code_back U8 = refl
code_back U16 = refl
code_back U32 = refl
code_back U64 = refl
code_back I8 = refl
code_back I16 = refl
code_back I32 = refl
code_back I64 = refl

pub same_ptype_is : (a b : PType) → same_ptype a b ≡ true → a ≡ b
same_ptype_is a b h = sym (code_back a) ∙ ap type_of_code (eqb-true (code_of a) (code_of b) h) ∙ code_back b

pub is_same_ptype : (a b : PType) → a ≡ b → same_ptype a b ≡ true
is_same_ptype a b e = eq-eqb (code_of a) (code_of b) (ap code_of e)

-- ---- positions
pub positions : (offset len : ℕ) → positions_refusal offset len ≡ None → (offset < 1024) × (1024 * chunk_count (offset + len) < 2 ^ 64)
positions offset len h =
    let both = two_passed (nat_le 1024 offset) (nat_le (2 ^ 64) (1024 * chunk_count (offset + len))) OffsetTooLarge LengthOverflow h in
    (leb-false 1024 offset both.0, leb-false (2 ^ 64) (1024 * chunk_count (offset + len)) both.1)

pub no_positions_refusal : (offset len : ℕ) → offset < 1024 → 1024 * chunk_count (offset + len) < 2 ^ 64 → positions_refusal offset len ≡ None
no_positions_refusal offset len a b = rw (lt-leb 1024 offset a, lt-leb (2 ^ 64) (1024 * chunk_count (offset + len)) b) refl

-- ---- validity and patches
fitting : (patches : Option PatchesParts) (ptype : PType) (len : ℕ) → option_all (λ p. same_ptype p.values.ptype ptype) patches ≡ true → option_all (λ p. p.array_len == len) patches ≡ true → IfSome patches (λ p. (p.array_len ≡ len) × (p.values.ptype ≡ ptype))
fitting None ptype len a b = tt
fitting (Some p) ptype len a b = (eqb-true p.array_len len b, same_ptype_is p.values.ptype ptype a)

fitting_type : (patches : Option PatchesParts) (ptype : PType) (len : ℕ) → IfSome patches (λ p. (p.array_len ≡ len) × (p.values.ptype ≡ ptype)) → option_all (λ p. same_ptype p.values.ptype ptype) patches ≡ true
fitting_type None ptype len h = refl
fitting_type (Some p) ptype len h = is_same_ptype p.values.ptype ptype h.1

fitting_len : (patches : Option PatchesParts) (ptype : PType) (len : ℕ) → IfSome patches (λ p. (p.array_len ≡ len) × (p.values.ptype ≡ ptype)) → option_all (λ p. p.array_len == len) patches ≡ true
fitting_len None ptype len h = refl
fitting_len (Some p) ptype len h = eq-eqb p.array_len len h.0

pub parts : (p : BitPackedParts) → positions_refusal p.offset p.len ≡ None → validity_and_patches_refusal p ≡ None → AreConsistent p
parts p a b =
    let at = positions p.offset p.len a in
    let low : p.offset < 1024 = at.0 in
    let high : 1024 * chunk_count (p.offset + p.len) < 2 ^ 64 = at.1 in
    let all = three_not (covers p.validity p.len) (option_all (λ q. same_ptype q.values.ptype p.ptype) p.patches) (option_all (λ q. q.array_len == p.len) p.patches) ValidityLength PatchType PatchLength b in
    record {
      fit = record { offset = low; few = omega arith; covers = all.0; patched = fitting p.patches p.ptype p.len all.1 all.2 };
      few = high;
    }

pub no_validity_and_patches_refusal : (p : BitPackedParts) → AreConsistent p → validity_and_patches_refusal p ≡ None
no_validity_and_patches_refusal p s = rw (s.fit.covers, fitting_type p.patches p.ptype p.len s.fit.patched, fitting_len p.patches p.ptype p.len s.fit.patched) refl

pub no_positions : (p : BitPackedParts) → AreConsistent p → positions_refusal p.offset p.len ≡ None
no_positions p s = no_positions_refusal p.offset p.len s.fit.offset s.few

-- ---- one width
-- parts whose blocks all have a width
pub record AreGlobal (p : BitPackedParts) (width : ℕ) : Type 0 where
  pub parts : AreConsistent p
  pub narrow : width ≤ bits_of_type p.ptype
  pub size : length p.packed ≡ 128 * width * block_count p

pub are_global : (p : BitPackedParts) (width : ℕ) → global_refusal p width ≡ None → AreGlobal p width
are_global p width h =
    let first = neither (positions_refusal p.offset p.len) _ h in
    let second = neither _ _ first.1 in
    let third = neither (validity_and_patches_refusal p) _ second.1 in
    record {
      parts = parts p first.0 third.0;
      narrow = ltb-false (bits_of_type p.ptype) width (passed (nat_lt (bits_of_type p.ptype) width) WidthTooLarge second.0);
      size = eqb-true (length p.packed) (128 * width * block_count p) (passed_not (length p.packed == 128 * width * block_count p) PackedLength third.1);
    }

pub no_global_refusal : (p : BitPackedParts) (width : ℕ) → AreGlobal p width → global_refusal p width ≡ None
no_global_refusal p width s = rw (no_positions p s.parts, le-ltb (bits_of_type p.ptype) width s.narrow, no_validity_and_patches_refusal p s.parts, eq-eqb (length p.packed) (128 * width * block_count p) s.size) refl

-- ---- boundaries
-- parts whose blocks lie between boundaries
pub record AreBlocked (p : BitPackedParts) (boundaries : Column) : Type 0 where
  pub parts : AreConsistent p
  pub typed : is_index_type boundaries.dtype ≡ true
  pub count : length boundaries.items ≡ block_count p + 1
  pub blocks : are_blocks (bits_of_type p.ptype) (length p.packed) (numbers_of boundaries) ≡ true
  pub span : slice_index (numbers_of boundaries) (block_count p) - slice_index (numbers_of boundaries) 0 ≡ length p.packed

pub are_blocked : (p : BitPackedParts) (boundaries : Column) → blocked_refusal p boundaries ≡ None → AreBlocked p boundaries
are_blocked p boundaries h =
    let first = neither (positions_refusal p.offset p.len) _ h in
    let second = neither (block_offsets_refusal (block_count p) boundaries.dtype (length boundaries.items)) _ first.1 in
    let third = neither (boundaries_refusal p (numbers_of boundaries)) (validity_and_patches_refusal p) second.1 in
    let counted = two_not (is_index_type boundaries.dtype) (length boundaries.items == block_count p + 1) BlockOffsetsType BlockOffsetsCount second.0 in
    let lying = two_not (are_blocks (bits_of_type p.ptype) (length p.packed) (numbers_of boundaries)) (slice_index (numbers_of boundaries) (block_count p) - slice_index (numbers_of boundaries) 0 == length p.packed) BlockBoundary BlockSpan third.0 in
    record {
      parts = parts p first.0 third.1;
      typed = counted.0;
      count = eqb-true (length boundaries.items) (block_count p + 1) counted.1;
      blocks = lying.0;
      span = eqb-true _ (length p.packed) lying.1;
    }

pub no_blocked_refusal : (p : BitPackedParts) (boundaries : Column) → AreBlocked p boundaries → blocked_refusal p boundaries ≡ None
no_blocked_refusal p boundaries s =
    rw (no_positions p s.parts, s.typed, eq-eqb (length boundaries.items) (block_count p + 1) s.count, s.blocks, eq-eqb (slice_index (numbers_of boundaries) (block_count p) - slice_index (numbers_of boundaries) 0) (length p.packed) s.span) (no_validity_and_patches_refusal p s.parts)
