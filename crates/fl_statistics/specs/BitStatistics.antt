-- What the bits of items say of packing them.
use Rattle.std.specs.Prelude.{◌==◌, ℤ, List, Option, sum}
use Rattle.std.specs.List.{list_all, list_any}
use Rattle.fl_types.specs.declared.dtype.PType.{PType}
use Rattle.fl_types.specs.Integers.{bits_of_type}
use Rattle.fl_patches.specs.Costs.{best_width, best_widths, count_above}
use Rattle.fl_patches.specs.Exceptions.{count_with_bits, exception_count, histogram_of, is_negative, width_of_block}
use Rattle.fl_statistics.specs.declared.widths.BitStatistics.{BitStatistics}

-- whether an item is negative, the best width and the best widths of the blocks, how many items have more bits, and how many all of the type's bits
unfoldable pub bit_statistics : PType → List (Option ℤ) → BitStatistics
bit_statistics ptype items = record {
  negative = list_any is_negative items;
  width = best_width ptype (histogram_of ptype items);
  exceptions = count_above (best_width ptype (histogram_of ptype items)) (histogram_of ptype items);
  block_widths = sum (best_widths ptype items);
  block_exceptions = exception_count ptype (width_of_block (best_widths ptype items)) items;
  all_native = list_all (λ width. width == bits_of_type ptype) (best_widths ptype items);
  widest = count_with_bits ptype items (bits_of_type ptype);
}
