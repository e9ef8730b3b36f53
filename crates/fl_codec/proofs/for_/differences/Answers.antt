use Rattle.std.proofs.Common.{◌≡◌, ◌-ℤ◌, map}
use Rattle.fl_types.specs.Integers.{wrap}
use Rattle.fl_types.specs.Validities.{items_of}
use Rattle.fl_codec.specs.FoRColumns.{minus_reference}
use Rattle.fl_codec.proofs.WithoutNulls.{full_differences, if_made}
use Rattle.fl_codec.proofs.for_.differences.Goals as goal

pub returns-in-NonNullable-clause-slots : goal.returns-in-NonNullable-clause-slots
returns-in-NonNullable-clause-slots g c =
    let value = g.T.Number.value in
    let ptype = g.T.NativePType.PTYPE in
    let reference = value c.args.reference in
    if_made (λ v. map value v.items ≡ map (λ z. wrap ptype (z -ℤ reference)) (map value c.args.items.now)) (λ v. map value v.items ≡ map (minus_reference ptype reference) (items_of c.args.validity.now (map value c.args.items.now))) c.differences-in-NonNullable.result c.differences-in-NonNullable.ensures
    (λ v made. full_differences value ptype reference c.args.validity.now c.args.items.now v.items c.in-NonNullable.is made)
