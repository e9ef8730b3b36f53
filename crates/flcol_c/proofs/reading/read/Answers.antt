use Rattle.std.proofs.Common.{rules, ◌≡◌, true, length, map}
use Rattle.fl_types.specs.Types.{has_ptype}
use Rattle.fl_array.specs.Trees.{column}
use Rattle.fl_bitmaps.specs.Bitmaps.{items_in}
use Rattle.flcol_c.specs.Reading.{nulls_fault, read_fault}
use Rattle.flcol_c.proofs.ReadLaws.{read_allowed}
use Rattle.flcol_c.proofs.StatusLaws.{gives_later}
use Rattle.flcol_c.proofs.reading.read.Goals as goal

pub returns-in-None-clause-read : goal.returns-in-None-clause-read
returns-in-None-clause-read g c =
    let here = column c.args.array.now in
    let ptype = g.T.NativePType.PTYPE in
    let done = c.read_encoded in
    let typed : has_ptype ptype here.dtype ≡ true = search rules in
    let len : length c.args.values.now ≡ length here.items = search rules in
    gives_later (read_fault ptype (length c.args.values.now) here) (nulls_fault (length c.args.validity.now) here) (λ _. here.items ≡ items_in (map g.T.Number.value done.new.values) done.new.validity) done.result
    (read_allowed ptype (length c.args.values.now) here typed len) done.ensures.read
