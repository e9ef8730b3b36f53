use Rattle.std.proofs.Common.{ℕ, ◌*◌, ap, refl, subst}
use Rattle.std.specs.Prelude.{Ok}
use Rattle.fl_types.specs.Refusals.{Answers}
use Rattle.fl_column.specs.Columns.{PrimitiveParts}
use Rattle.fl_bitpacking.proofs.OneWidth.{equal_array, equal_small}
use Rattle.fl_bitpacking.proofs.boundaries.global_boundary_array.Goals as goal

pub index_array-requires : goal.index_array-requires
index_array-requires c = equal_small c.args.blocks c.args.width (128 * c.from.result) _ _ (ap (λ (n : ℕ). 128 * n) c.from.ensures) refl c.in_ok-boundaries.ensures

pub returns : goal.returns
returns c =
    let by : PrimitiveParts → Type 0 = λ b. Answers (λ a. a) c.index_array.result (Ok b) in
    subst by (equal_array c.args.blocks c.args.width (128 * c.from.result) _ _ (ap (λ (n : ℕ). 128 * n) c.from.ensures) refl c.in_ok-boundaries.ensures) c.index_array.ensures
