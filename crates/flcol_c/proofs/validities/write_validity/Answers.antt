use Rattle.std.proofs.Common.{◌≡◌, ◌≢◌, length, arith, rules}
use Rattle.fl_column.proofs.BitmapLaws.{no_bit_behind}
use Rattle.flcol_c.proofs.ValidityLaws.{marked_valid, unmarked_valid}
use Rattle.flcol_c.proofs.validities.write_validity.Goals as goal

pub returns-then-is_empty-clause-valid : goal.returns-then-is_empty-clause-valid
returns-then-is_empty-clause-valid c i h =
    let none : length c.args.bitmap.now ≡ 0 = search rules in
    unmarked_valid c.args.validity.now c.args.bitmap.now c.args.len none c.requires.covers c.requires.room i h

pub returns-then-is_empty-clause-clear : goal.returns-then-is_empty-clause-clear
returns-then-is_empty-clause-clear c i h =
    let none : length c.args.bitmap.now ≡ 0 = search rules in
    no_bit_behind c.args.bitmap.now i (omega arith)

pub returns-clause-valid : goal.returns-clause-valid
returns-clause-valid c i h =
    let some : length c.write_bitmap.new.bitmap ≢ 0 = search rules in
    marked_valid c.args.validity.now c.write_bitmap.new.bitmap c.args.len some c.write_bitmap.ensures.valid i h
