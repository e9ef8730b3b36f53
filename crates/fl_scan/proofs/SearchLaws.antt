-- Searches of the column that is read.
use Rattle.std.proofs.Common.{◌≡◌, List, get_or, true, refl}
use Rattle.std.specs.Prelude.{All}
use Rattle.std.specs.List.{list_all}
use Rattle.std.proofs.Math.Path.{subst}
use Rattle.fl_types.specs.declared.dtype.DType.{DType}
use Rattle.fl_types.specs.declared.dtype.DType.TheVariants as dtypes
use Rattle.fl_types.specs.declared.dtype.Nullability.{Nullability}
use Rattle.fl_types.specs.declared.dtype.PType.{PType}
use Rattle.fl_types.specs.declared.scalar.PValue.{PValue}
use Rattle.fl_types.specs.Types.{has_ptype, is_integer}
use Rattle.fl_types.specs.Values.{fits_in, ptype_of_value}
use Rattle.fl_types.specs.Integers.{fits}
use Rattle.fl_column.specs.Columns.{Column, option_all}
use Rattle.fl_column.proofs.ListLaws.{all_at}
use Rattle.fl_array.specs.Ranges.{items_fit}
use Rattle.fl_codec.proofs.FirstRefusals.{is_same_ptype, same_ptype_is}
use Rattle.fl_scan.specs.Membership.{are_comparable}

-- the type of a column of integers
pub ptype_held : (d : DType) (p : PType) (n : Nullability) → d ≡ dtypes.Primitive p n → has_ptype p d ≡ true
ptype_held d p n is = rw is (is_same_ptype p p refl)

pub ptype_is : (d : DType) (p q : PType) (n : Nullability) → d ≡ dtypes.Primitive q n → has_ptype p d ≡ true → p ≡ q
ptype_is d p q n is h = same_ptype_is p q (rw is at h)

-- each constant of a list is of the column's type
pub constants_held : (c : Column) (list : List PValue) (p : PType) (n : Nullability) → c.dtype ≡ dtypes.Primitive p n → are_comparable c list ≡ true → All (λ value. ptype_of_value value ≡ p) list
constants_held c list p n is h =
    let all : list_all (λ value. has_ptype (ptype_of_value value) (dtypes.Primitive p n)) list ≡ true = rw is at h in
    λ k d within. same_ptype_is (ptype_of_value (get_or list k d)) p (all_at (λ value. has_ptype (ptype_of_value value) (dtypes.Primitive p n)) list k d all within)

pub integers_held : (d : DType) (p : PType) (n : Nullability) → d ≡ dtypes.Primitive p n → is_integer d ≡ true
integers_held d p n is = rw is refl

pub fits_held : (c : Column) (p : PType) (n : Nullability) → c.dtype ≡ dtypes.Primitive p n → items_fit c ≡ true → list_all (option_all (fits p)) c.items ≡ true
fits_held c p n is h = subst (λ (d : DType). list_all (option_all (fits_in d)) c.items ≡ true) is h
