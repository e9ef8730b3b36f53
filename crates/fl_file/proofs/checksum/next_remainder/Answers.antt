use Rattle.std.proofs.Common.{◌≡◌, arith}
use Rattle.fl_file.proofs.Crc32cLaws.{byte_by_table}
use Rattle.fl_file.proofs.checksum.next_remainder.Goals as goal

pub returns : goal.returns
returns c =
    let wide : c.from.result ≡ c.args.byte = omega arith in
    rw wide (byte_by_table c.args.remainder c.args.byte (omega arith))
