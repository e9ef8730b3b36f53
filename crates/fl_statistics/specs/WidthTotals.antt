-- What the best widths of blocks add up to.
use Rattle.std.specs.Prelude.{◌≡◌, ◌*◌, ◌==◌, ℕ, ℤ, List, Option, length, sum, take}
use Rattle.std.specs.List.{list_all}
use Rattle.fl_types.specs.declared.dtype.PType.{PType}
use Rattle.fl_types.specs.Integers.{bits_of_type}
use Rattle.fl_patches.specs.Costs.{best_widths, first_widths}
use Rattle.fl_patches.specs.Exceptions.{exceptions_of, width_of_block}
use Rattle.fl_patches.specs.PatchMaps.{values_in}
use Rattle.fl_statistics.specs.declared.widths.WidthTotals.{WidthTotals}

-- these are the sum of the best widths of the first blocks, how many items they leave out, and whether all of them are the type's bits
pub record AreWidthTotals (ptype : PType) (items : List (Option ℤ)) (blocks : ℕ) (totals : WidthTotals) : Type 0 where
  pub widths : totals.widths ≡ sum (first_widths ptype items blocks)
  pub exceptions : totals.exceptions ≡ length (values_in (take (1024 * blocks) (exceptions_of ptype (width_of_block (best_widths ptype items)) items)))
  pub all_native : totals.all_native ≡ list_all (λ width. width == bits_of_type ptype) (first_widths ptype items blocks)
