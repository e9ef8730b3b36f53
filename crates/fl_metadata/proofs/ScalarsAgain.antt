-- Each scalar that is written is read again, and what is read fits its type.
use Rattle.std.proofs.Common.{◌≡◌, ℕ, ◌+◌, ◌*◌, ◌/◌, ◌%◌, ◌^◌, ◌<◌, ◌≤◌, true, List, [], ◌∷◌, Option, Some, None, Result, Ok, Err, refl, ap, subst, arith, inl, inr}
use Rattle.std.specs.Prelude.{ℤ, pos, negsuc, IfSome, FitsSigned, option_map, unwrap_or}
use Rattle.std.specs.Int.{w8, w16, w32, w64}
use mir.Syntax.{Width}
use mir.Val.{hbits}
use Rattle.std.proofs.lemmas.Bool.{cases_eq, eq-eqb, ne_eqb}
use Rattle.fl_types.specs.declared.error.FastLanesError.{FastLanesError}
use Rattle.fl_types.specs.declared.dtype.PType.{PType}
use Rattle.fl_types.specs.declared.dtype.PType.TheVariants.{U8, U16, U32, U64, I8, I16, I32, I64}
use Rattle.fl_types.specs.Integers.{FitsIn}
use Rattle.fl_metadata.specs.Wire.{Payload}
use Rattle.fl_metadata.specs.Schemas.{◌>>=◌, kind_at, values_of, number_at, optional_number_at, KeepsLimits}
use Rattle.fl_metadata.specs.WrittenText.{stated, message_text, fields_in, IsOneText}
use Rattle.fl_metadata.specs.Scalars.{zigzag, unzigzag, scalar_tag, scalar_number, scalar_value, scalar_limit, scalar_schema, scalar_of, scalar_slots}
use Rattle.fl_metadata.specs.declared.schema.Kind.TheVariants as kinds
use Rattle.fl_metadata.proofs.RowsSay.{said_keeps}
use Rattle.fl_metadata.proofs.WrittenRows.{rises, one_text}
use Rattle.fl_metadata.proofs.WrittenRead.{AdmitsAll, are_writable, read_again, written_values, stated_again}

-- ---- zigzag

unzigzag_again : (z : ℤ) → unzigzag (zigzag z) ≡ z
unzigzag_again (pos n) =
    let even : (2 * n) % 2 ≡ 0 = omega arith in
    let half : 2 * n / 2 ≡ n = omega arith in
    rw (eq-eqb ((2 * n) % 2) 0 even, half) refl
unzigzag_again (negsuc n) =
    let odd : (2 * n + 1) % 2 ≡ 1 = omega arith in
    let half : (2 * n + 1) / 2 ≡ n = omega arith in
    rw (ne_eqb ((2 * n + 1) % 2) 0 (λ e. omega arith), half) refl

-- ---- scalars

admits_value : (ptype : PType) (n : ℕ) → n ≤ scalar_limit ptype → AdmitsAll (scalar_schema ptype) (stated (scalar_tag ptype) (Some n) ∷ [])
admits_value U8 n le = ((le, omega arith), tt)
admits_value U16 n le = ((le, omega arith), tt)
admits_value U32 n le = ((le, omega arith), tt)
admits_value U64 n le = ((le, omega arith), tt)
admits_value I8 n le = ((le, omega arith), tt)
admits_value I16 n le = ((le, omega arith), tt)
admits_value I32 n le = ((le, omega arith), tt)
admits_value I64 n le = ((le, omega arith), tt)

under_limit : (ptype : PType) (z : ℤ) → FitsIn ptype z → scalar_number ptype z ≤ scalar_limit ptype
under_limit U8 (pos n) h = omega arith
under_limit U8 (negsuc n) h = absurd h
under_limit U16 (pos n) h = omega arith
under_limit U16 (negsuc n) h = absurd h
under_limit U32 (pos n) h = omega arith
under_limit U32 (negsuc n) h = absurd h
under_limit U64 (pos n) h = omega arith
under_limit U64 (negsuc n) h = absurd h
under_limit I8 (pos n) h = omega (arith, h.sfits)
under_limit I8 (negsuc n) h = omega (arith, h.sfits)
under_limit I16 (pos n) h = omega (arith, h.sfits)
under_limit I16 (negsuc n) h = omega (arith, h.sfits)
under_limit I32 (pos n) h = omega (arith, h.sfits)
under_limit I32 (negsuc n) h = omega (arith, h.sfits)
under_limit I64 (pos n) h = omega (arith, h.sfits)
under_limit I64 (negsuc n) h = omega (arith, h.sfits)

value_again : (ptype : PType) (z : ℤ) → FitsIn ptype z → scalar_value ptype (scalar_number ptype z) ≡ z
value_again U8 (pos n) h = refl
value_again U8 (negsuc n) h = absurd h
value_again U16 (pos n) h = refl
value_again U16 (negsuc n) h = absurd h
value_again U32 (pos n) h = refl
value_again U32 (negsuc n) h = absurd h
value_again U64 (pos n) h = refl
value_again U64 (negsuc n) h = absurd h
value_again I8 z h = unzigzag_again z
value_again I16 z h = unzigzag_again z
value_again I32 z h = unzigzag_again z
value_again I64 z h = unzigzag_again z

scalar_admits : (ptype : PType) (value : Option ℤ) → IfSome value (FitsIn ptype) → AdmitsAll (scalar_schema ptype) (scalar_slots ptype value)
scalar_admits ptype None h = (tt, tt)
scalar_admits ptype (Some z) h = admits_value ptype (scalar_number ptype z) (under_limit ptype z h)

tag_rises : (ptype : PType) (n : Option ℕ) → rises 0 (stated (scalar_tag ptype) n ∷ []) ≡ true
tag_rises U8 n = refl
tag_rises U16 n = refl
tag_rises U32 n = refl
tag_rises U64 n = refl
tag_rises I8 n = refl
tag_rises I16 n = refl
tag_rises I32 n = refl
tag_rises I64 n = refl

number_written : (ptype : PType) (n : Option ℕ) → optional_number_at (scalar_tag ptype) (written_values (stated (scalar_tag ptype) n ∷ [])) ≡ n
unfolding optional_number_at
number_written U8 n = stated_again n
number_written U16 n = stated_again n
number_written U32 n = stated_again n
number_written U64 n = stated_again n
number_written I8 n = stated_again n
number_written I16 n = stated_again n
number_written I32 n = stated_again n
number_written I64 n = stated_again n

values_again : (ptype : PType) (value : Option ℤ) → IfSome value (FitsIn ptype) → option_map (scalar_value ptype) (option_map (scalar_number ptype) value) ≡ value
values_again ptype None h = refl
values_again ptype (Some z) h = ap Some (value_again ptype z h)

pub scalar_again : (ptype : PType) (value : Option ℤ) → IfSome value (FitsIn ptype) → scalar_of ptype (message_text (scalar_slots ptype value)) ≡ Ok value
unfolding scalar_of
scalar_again ptype value h =
    let number = option_map (scalar_number ptype) value in
    rw (read_again (scalar_schema ptype) (scalar_slots ptype value) (tag_rises ptype number) (scalar_admits ptype value h), number_written ptype number, values_again ptype value h) refl

pub scalar_one : (ptype : PType) (value : Option ℤ) → IfSome value (FitsIn ptype) → IsOneText (fields_in (scalar_slots ptype value)) (message_text (scalar_slots ptype value))
scalar_one ptype value h = one_text (scalar_slots ptype value) (tag_rises ptype (option_map (scalar_number ptype) value)) (are_writable (scalar_schema ptype) (scalar_slots ptype value) (scalar_admits ptype value h))

-- ---- what is read fits

half_fits : (n top : ℕ) → n < 2 * top → n / 2 < top
half_fits n top lt = omega arith

signed_small : (w : Width) (n : ℕ) → n < 2 * 2 ^ hbits w → FitsSigned w (unzigzag n)
signed_small w n lt =
    let half : n / 2 < 2 ^ hbits w = half_fits n (2 ^ hbits w) lt in
    elim (cases_eq (n % 2) 0) [
      | inl even ↦ rw (eq-eqb (n % 2) 0 even) (record { sfits = half })
      | inr odd ↦ rw (ne_eqb (n % 2) 0 odd) (record { sfits = half })
    ]

small_fits : (ptype : PType) (n : ℕ) → n ≤ scalar_limit ptype → FitsIn ptype (scalar_value ptype n)
small_fits U8 n le = omega arith
small_fits U16 n le = omega arith
small_fits U32 n le = omega arith
small_fits U64 n le = omega arith
small_fits I8 n le = signed_small w8 n (omega arith)
small_fits I16 n le = signed_small w16 n (omega arith)
small_fits I32 n le = signed_small w32 n (omega arith)
small_fits I64 n le = signed_small w64 n (omega arith)

limit_at : (ptype : PType) → kind_at (scalar_schema ptype) (scalar_tag ptype) ≡ kinds.Number (scalar_limit ptype)
limit_at U8 = refl
limit_at U16 = refl
limit_at U32 = refl
limit_at U64 = refl
limit_at I8 = refl
limit_at I16 = refl
limit_at I32 = refl
limit_at I64 = refl

of_number : (ptype : PType) (z : ℤ) (values : List (Option Payload)) (n : Option ℕ) → KeepsLimits (scalar_schema ptype) values → optional_number_at (scalar_tag ptype) values ≡ n → option_map (scalar_value ptype) n ≡ Some z → FitsIn ptype z
unfolding number_at
of_number ptype z values None keeps held is = absurd cc
of_number ptype z values (Some n) keeps held is =
    let most : number_at (scalar_tag ptype) values ≤ scalar_limit ptype = keeps (scalar_tag ptype) (scalar_limit ptype) (limit_at ptype) in
    let number : number_at (scalar_tag ptype) values ≡ n = ap (λ (o : Option ℕ). unwrap_or o 0) held in
    let same : scalar_value ptype n ≡ z = cc in
    subst (FitsIn ptype) same (small_fits ptype n (omega arith))

pub scalar_fits : (ptype : PType) (bytes : List ℕ) (z : ℤ) → scalar_of ptype bytes ≡ Ok (Some z) → FitsIn ptype z
unfolding scalar_of
scalar_fits ptype bytes z e = each (values_of (scalar_schema ptype) bytes) refl e
  where
    each : (read : Result (List (Option Payload)) FastLanesError) → values_of (scalar_schema ptype) bytes ≡ read → (read >>= λ values. Ok (option_map (scalar_value ptype) (optional_number_at (scalar_tag ptype) values))) ≡ Ok (Some z) → FitsIn ptype z
    each (Ok values) held is = of_number ptype z values (optional_number_at (scalar_tag ptype) values) (said_keeps (scalar_schema ptype) bytes values held) refl (cc)
    each (Err e) held is = absurd cc
