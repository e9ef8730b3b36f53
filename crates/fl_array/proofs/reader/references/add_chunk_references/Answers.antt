use Rattle.std.proofs.Common.{◌≡◌, List, ◌+◌, ◌-◌, ◌/◌, ◌%◌, ◌∙◌, ap, drop, length, length-drop, map, refl, arith}
use Rattle.std.proofs.lemmas.List.{take_all}
use Rattle.fl_codec.specs.FoRColumns.{chunked_sums}
use Rattle.fl_array.proofs.ReadReferences.{references_shown}
use Rattle.fl_array.proofs.reader.references.add_chunk_references.Goals as goal

pub returns : goal.returns
returns g c d typed room shown =
    let value = g.T.Number.value in
    let refs = c.as_slice-references.result.now in
    let first = c.args.offset + c.args.start in
    let sums : map value c.add_references_in_place.new.values ≡ chunked_sums g.T.NativePType.PTYPE (map value (drop (first / 1024) refs)) (first % 1024) (map value c.args.items.now) =
    c.add_references_in_place.ensures ∙ ap (λ (xs : List g.row.T.Denot). chunked_sums g.T.NativePType.PTYPE (map value xs) (first % 1024) (map value c.args.items.now)) (take_all (length refs - first / 1024) (drop (first / 1024) refs) (let rest = length-drop (first / 1024) refs in omega arith)) in
    references_shown value d g.T.NativePType.PTYPE c.args.references.now.slots refs c.args.items.now c.add_references_in_place.new.values c.args.offset c.args.start _ typed c.as_slice-references.ensures refl room sums shown
