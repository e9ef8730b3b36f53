use Rattle.std.proofs.Common.{◌+◌, ◌∙◌, sym}
use Rattle.fl_types.proofs.BitLists.{no_bit}
use Rattle.fl_scan.proofs.CountingLaws.{none_valid, ones_clear, ones_marked}
use Rattle.fl_scan.proofs.counting.marks_from.Goals as goal

pub returns-in-NonNullable-clause-bits : goal.returns-in-NonNullable-clause-bits
returns-in-NonNullable-clause-bits c j h = ones_marked c.args.marks.now c.args.start c.args.count j c.in-NonNullable.is c.requires.few h

pub returns-in-NonNullable-clause-clear : goal.returns-in-NonNullable-clause-clear
returns-in-NonNullable-clause-clear c j h = ones_clear c.args.count j c.requires.few h

pub returns-in-AllInvalid-clause-bits : goal.returns-in-AllInvalid-clause-bits
returns-in-AllInvalid-clause-bits c j h = no_bit j ∙ sym (none_valid c.args.marks.now (c.args.start + j) c.in-AllInvalid.is)

pub returns-in-AllInvalid-clause-clear : goal.returns-in-AllInvalid-clause-clear
returns-in-AllInvalid-clause-clear c j h = no_bit j
