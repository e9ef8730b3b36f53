-- Which items a filter keeps.
use Rattle.std.specs.Prelude.{ℕ, Bool, true, false, List, length, replicate}
use Rattle.fl_types.specs.declared.mask.Mask.{Mask}
use Rattle.fl_types.specs.declared.mask.Mask.TheVariants.{AllTrue, AllFalse, Values}

-- how many items the mask is for
abbrev pub mask_len : Mask → ℕ
mask_len (AllTrue len) = len
mask_len (AllFalse len) = len
mask_len (Values bits) = length bits

-- the mask, item by item
abbrev pub mask_bits : Mask → List Bool
mask_bits (AllTrue len) = replicate len true
mask_bits (AllFalse len) = replicate len false
mask_bits (Values bits) = bits
