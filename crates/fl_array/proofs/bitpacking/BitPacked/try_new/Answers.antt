use Rattle.std.proofs.Common.{sym, ◌∙◌}
use Rattle.fl_bitpacking.proofs.SoundParts.{are_global}
use Rattle.fl_array.proofs.bitpacking.BitPacked.try_new.Goals as goal

pub new-requires : goal.new-requires
new-requires c = (are_global _ _ (sym c.refusal_at_width.ensures ∙ c.in-None.is)).parts
