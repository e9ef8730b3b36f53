use Rattle.fl_array.proofs.EncodedRLE.{ok_is}
use Rattle.fl_compress.proofs.StatisticsLaws.{delta_sizes_are}
use Rattle.fl_compress.proofs.statistics.delta_sizes.Goals as goal

pub returns : goal.returns
returns c =
    delta_sizes_are c.args.array.now c.in_ok-bases.bases c.in_ok-framed.framed c.in_ok-deltas.deltas c.in_ok-bases-2.bases c.validity.result.now c.validity_bytes-validity.result c.len.result
    (ok_is _ _ c.in_ok-framed.ensures) (ok_is _ _ c.in_ok-bases.ensures) (ok_is _ _ c.in_ok-bases-2.ensures) (ok_is _ _ c.in_ok-deltas.ensures) c.validity_bytes-validity.ensures.value c.len.ensures.slots c.validity.ensures.value
