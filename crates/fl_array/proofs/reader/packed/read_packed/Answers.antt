use Rattle.std.proofs.Common.{◌≡◌, ◌∙◌, ap, length, subst, arith}
use Rattle.fl_column.specs.Columns.{Column}
use Rattle.fl_bitpacking.specs.Blocks.{blocks_of, value_at}
use Rattle.fl_bitpacking.specs.Columns.{BitPackedParts, column_of_packed}
use Rattle.fl_bitpacking.specs.References.{plus_references}
use Rattle.fl_array.specs.PackedSums.{column_of_sums}
use Rattle.fl_array.specs.Readers.{AreItemsFrom}
use Rattle.fl_array.proofs.BitPackedLaws.{bitpacked_len}
use Rattle.fl_array.proofs.BlockWidths.{read_column}
use Rattle.fl_array.proofs.ReadPacked.{sums_len, sums_typed}
use Rattle.fl_array.proofs.reader.packed.read_packed.Goals as goal

pub read_into-requires : goal.read_into-requires
read_into-requires g c =
    let p = c.args.packed.now in
    let a = p.array.now in
    let long : length (column_of_sums p).items ≡ a.parts.len = sums_len p ∙ bitpacked_len a in
    rw c.packed_data-data.ensures (record {
      typed = sums_typed p g.T.NativePType.PTYPE c.requires.typed;
      references = c.view-added.ensures.sound a.parts.ptype _ c.requires.sound.added;
      widths = (c.requires.sound.widths c.view-widths.result c.view-widths.ensures).sound;
      range = (let range = c.requires.range in omega arith);
    })

pub returns : goal.returns
returns g c =
    let p = c.args.packed.now in
    let a = p.array.now in
    let of = c.requires.sound.widths c.view-widths.result c.view-widths.ensures in
    let n = length c.args.items.now in
    let integer = value_at g.T.Number.value c.read_into.new.items in
    let read = subst (λ (parts : BitPackedParts). AreItemsFrom c.args.start n integer (plus_references c.view-added.result parts.offset (column_of_packed parts (blocks_of c.view-widths.result)))) c.packed_data-data.ensures c.read_into.ensures.items in
    let same = ap (λ (x : Column). plus_references c.view-added.result a.parts.offset x) (read_column a c.view-widths.result of) ∙ c.view-added.ensures.sums a.parts.offset _ in
    subst (λ (x : Column). AreItemsFrom c.args.start n integer x) same read
