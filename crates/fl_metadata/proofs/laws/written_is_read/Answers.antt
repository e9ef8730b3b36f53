use Rattle.fl_metadata.proofs.MessagesAgain.{bit_packed_again, bit_packed_blocked_again, patches_again, for_chunked_again, delta_again, rle_again}
use Rattle.fl_metadata.proofs.ScalarsAgain.{scalar_again}
use Rattle.fl_metadata.proofs.laws.written_is_read.Goals as goal

pub returns : goal.returns
returns c = record { bit_packed = bit_packed_again; bit_packed_blocked = bit_packed_blocked_again; patches = patches_again; for_chunked = for_chunked_again; delta = delta_again; rle = rle_again; scalar = scalar_again }
