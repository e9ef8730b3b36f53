use Rattle.std.proofs.Common.{sym}
use Rattle.fl_column.specs.Columns.{column_of_primitive}
use Rattle.flcol_c.proofs.FileLaws.{appended_by}
use Rattle.flcol_c.proofs.files.append.Goals as goal

pub returns-clause-appended : goal.returns-clause-appended
returns-clause-appended c =
    appended_by c.args.place c.args.room.now _ c.in_ok-chunk.chunk.items c.as_slice-bytes.result.now c.in_ok-len.len c.gap_behind-gap.result c.crc32c-checksum.result c.of-statistics.result c.record_of.result c.args.array.now
    (column_of_primitive c.in_ok-plain.plain) c.in_ok-chunk.ensures c.as_slice-bytes.ensures.value c.gap_behind-gap.ensures.gap (sym c.in_ok-len.ensures.fault) c.in_ok-len.ensures.put c.crc32c-checksum.ensures c.of-statistics.ensures.exact c.in_ok-plain.ensures.1.0 c.record_of.ensures
