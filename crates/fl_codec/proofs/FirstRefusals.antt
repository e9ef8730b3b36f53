-- The first of several refusals, and types that are the same.
use Rattle.std.proofs.Common.{◌≡◌, ℕ, zero, suc, true, None, Option, refl, ap, sym, ◌∙◌, Some}
use Rattle.std.proofs.lemmas.Bool.{eqb-true, eq-eqb}
use Rattle.fl_types.specs.declared.error.FastLanesError.{FastLanesError}
use Rattle.fl_types.specs.declared.dtype.PType.{PType}
use Rattle.fl_types.specs.declared.dtype.PType.TheVariants.{U8, U16, U32, U64, I8, I16, I32, I64}
use Rattle.fl_types.specs.Integers.{code_of, same_ptype}
use Rattle.fl_codec.specs.Refusals.{otherwise}

pub neither : (a b : Option FastLanesError) → otherwise a b ≡ None → (a ≡ None) × (b ≡ None)
neither None b h = (refl, h)
neither (Some e) b h = cc

pub both_none : (a b : Option FastLanesError) → a ≡ None → b ≡ None → otherwise a b ≡ None
both_none a b e f = rw (e, f) refl

type_of_code : ℕ → PType
type_of_code zero = U8
type_of_code (suc zero) = U16
type_of_code (suc (suc zero)) = U32
type_of_code (suc (suc (suc zero))) = U64
type_of_code (suc (suc (suc (suc zero)))) = I8
type_of_code (suc (suc (suc (suc (suc zero))))) = I16
type_of_code (suc (suc (suc (suc (suc (suc zero)))))) = I32
type_of_code (suc (suc (suc (suc (suc (suc (suc n))))))) = I64

code_back : (p : PType) → type_of_code (code_of p) ≡ p
unfolding type_of_code
code_back U8 = refl
code_back U16 = refl
code_back U32 = refl
code_back U64 = refl
code_back I8 = refl
code_back I16 = refl
code_back I32 = refl
code_back I64 = refl

pub same_ptype_is : (a b : PType) → same_ptype a b ≡ true → a ≡ b
same_ptype_is a b h = sym (code_back a) ∙ ap type_of_code (eqb-true (code_of a) (code_of b) h) ∙ code_back b

pub is_same_ptype : (a b : PType) → a ≡ b → same_ptype a b ≡ true
is_same_ptype a b e = eq-eqb (code_of a) (code_of b) (ap code_of e)
