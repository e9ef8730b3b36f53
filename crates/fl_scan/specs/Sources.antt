-- What is scanned.
use Rattle.fl_column.specs.Columns.{Column, column_of_constant, column_of_primitive}
use Rattle.fl_scan.specs.declared.source.Source.{Source}
use Rattle.fl_scan.specs.declared.source.Source.TheVariants.{Blocks, Constant, Decoded, Kept, Primitive}

-- the column of what is scanned
abbrev pub column_of_source : Source → Column
column_of_source (Primitive plain) = column_of_primitive plain.now
column_of_source (Constant constant) = column_of_constant constant.now
column_of_source (Blocks blocks) = blocks
column_of_source (Kept kept) = kept
column_of_source (Decoded plain) = column_of_primitive plain
