-- References that fit items fit others of the same integer type.
use Rattle.std.proofs.Common.{◌≡◌, Some, Option}
use Rattle.fl_types.specs.declared.dtype.PType.{PType}

type_there : (p q : PType) → (let some : Option PType = Some p in some) ≡ Some q → p ≡ q
type_there p q h = cc
