use Rattle.std.proofs.Common.{rules, ◌≡◌, ◌∙◌, None, Some, length, map, sym}
use Rattle.std.proofs.lemmas.List.{length-map}
use Rattle.fl_array.specs.Trees.{column}
use Rattle.flcol_c.specs.Bitmaps.{null_total, room_fault}
use Rattle.flcol_c.proofs.NullLaws.{items_read, room_of_validity}
use Rattle.flcol_c.proofs.reading.read_encoded.Goals as goal

pub returns-in-Some-clause-read : goal.returns-in-Some-clause-read
returns-in-Some-clause-read g c = λ other.
    let valid = c.in_ok-valid.valid in
    let n = length c.args.values.now in
    let room = room_of_validity (length c.args.validity.now) n valid (column c.args.array.now) c.in_ok-valid.ensures.validity c.requires.long in
    let said : room_fault (length c.args.validity.now) n (null_total valid n) ≡ Some c.in-Some.fault = search rules in
    sym room ∙ said

pub returns-clause-read : goal.returns-clause-read
returns-clause-read g c =
    let valid = c.in_ok-valid.valid in
    let here = column c.args.array.now in
    let n = length c.args.values.now in
    let new = c.decode_into.new.values in
    let room = room_of_validity (length c.args.validity.now) n valid here c.in_ok-valid.ensures.validity c.requires.long in
    let enough : room_fault (length c.args.validity.now) n (null_total valid n) ≡ None = search rules in
    (sym room ∙ enough, items_read valid (map g.T.Number.value new) n c.write_validity.new.bitmap here c.in_ok-valid.ensures.validity c.in_ok-decode_into.ensures.items (length-map new g.T.Number.value ∙ c.decode_into.auto.values) c.requires.long c.write_validity.ensures.valid)
