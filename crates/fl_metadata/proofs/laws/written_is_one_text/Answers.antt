use Rattle.fl_metadata.proofs.MessagesAgain.{bit_packed_one, bit_packed_blocked_one, patches_one, for_chunked_one, delta_one, rle_one}
use Rattle.fl_metadata.proofs.ScalarsAgain.{scalar_one}
use Rattle.fl_metadata.proofs.laws.written_is_one_text.Goals as goal

pub returns : goal.returns
returns c = record { bit_packed = bit_packed_one; bit_packed_blocked = bit_packed_blocked_one; patches = patches_one; for_chunked = for_chunked_one; delta = delta_one; rle = rle_one; scalar = scalar_one }
