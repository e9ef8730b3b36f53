use Rattle.std.proofs.Common.{◌≡◌, length, sym}
use Rattle.fl_column.specs.Columns.{column_of_primitive}
use Rattle.fl_codec.specs.Dictionaries.{encode_dictionaries}
use Rattle.fl_array.specs.RLEArrays.{RLEArrayParts, tree_of_rle}
use Rattle.fl_array.specs.Trees.{column}
use Rattle.fl_array.proofs.EncodedRLE.{ok_is, parts_back, parts_sound}
use Rattle.fl_array.proofs.RLELaws.{if_answered}
use Rattle.fl_array.proofs.rle.dictionary.Dictionary.encode.Goals as goal

pub new_unchecked-requires : goal.new_unchecked-requires
new_unchecked-requires c =
    rw (c.into_array.ensures, c.into_array-2.ensures, c.into_array-3.ensures)
    (parts_sound (encode_dictionaries c.args.array.now) c.in_ok-values.field-0.values c.in_ok-values.field-0.indices c.in_ok-values.field-0.offsets (length c.args.array.now.slots) _ (ok_is _ _ (sym c.in_ok-values.ensures)) c.len-len.ensures.slots c.validity-values.ensures.covers c.validity-indices.ensures.covers c.validity-offsets.ensures.covers c.dictionaries_and_back.ensures.sound)

pub returns-clause-column : goal.returns-clause-column
returns-clause-column c =
    let sound = parts_sound (encode_dictionaries c.args.array.now) c.in_ok-values.field-0.values c.in_ok-values.field-0.indices c.in_ok-values.field-0.offsets (length c.args.array.now.slots) _ (ok_is _ _ (sym c.in_ok-values.ensures)) c.len-len.ensures.slots c.validity-values.ensures.covers c.validity-indices.ensures.covers c.validity-offsets.ensures.covers c.dictionaries_and_back.ensures.sound in
    if_answered (λ (a : RLEArrayParts). column (tree_of_rle a) ≡ column_of_primitive c.args.array.now) c.new_unchecked.result _ c.new_unchecked.ensures
    (rw (c.into_array.ensures, c.into_array-2.ensures, c.into_array-3.ensures) (parts_back (encode_dictionaries c.args.array.now) c.args.array.now c.in_ok-values.field-0.values c.in_ok-values.field-0.indices c.in_ok-values.field-0.offsets _ (ok_is _ _ (sym c.in_ok-values.ensures)) c.len-len.ensures.slots sound c.dictionaries_and_back.ensures.column))
