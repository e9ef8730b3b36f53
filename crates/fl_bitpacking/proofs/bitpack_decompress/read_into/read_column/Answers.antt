use Rattle.std.proofs.Common.{ℤ, ◌∷◌, ◌∙◌, [], List, ap, length, map, subst}
use Rattle.fl_column.specs.Columns.{Column}
use Rattle.fl_codec.specs.FoRColumns.{chunked_for, global_for}
use Rattle.fl_bitpacking.specs.Blocks.{blocks_of, value_at}
use Rattle.fl_bitpacking.specs.BlockSums.{plus_block_reference}
use Rattle.fl_bitpacking.specs.Columns.{column_of_packed}
use Rattle.fl_bitpacking.specs.ItemsFrom.{AreItemsFrom}
use Rattle.fl_bitpacking.specs.Parts.{parts_of}
use Rattle.fl_bitpacking.proofs.BlockSums.{block_sums, global_sums, none_sums, plus_its_own, plus_the_one}
use Rattle.fl_bitpacking.proofs.bitpack_decompress.read_into.read_column.Goals as goal

pub returns-in-None-clause-items : goal.returns-in-None-clause-items
returns-in-None-clause-items g c =
    let sums = none_sums g.T.NativePType.PTYPE (parts_of c.args.column.now) (blocks_of c.args.widths) in
    rw c.in-None.is (subst (λ (x : Column). AreItemsFrom c.args.start (length c.args.items.now) (value_at g.T.Number.value c.read_items.new.items) x) sums c.read_items.ensures.items)

pub returns-in-Global-clause-items : goal.returns-in-Global-clause-items
returns-in-Global-clause-items g c =
    let value = g.T.Number.value in
    let ptype = g.T.NativePType.PTYPE in
    let r = value c.unwrap-reference.result in
    let parts = parts_of c.args.column.now in
    let blocks = blocks_of c.args.widths in
    let reference = rw c.unwrap-reference.ensures at c.from_pvalue.ensures.value in
    let sums = global_sums (plus_block_reference ptype (r ∷ [])) ptype r parts blocks c.requires.typed (λ j z. plus_the_one ptype r z j) in
    rw c.in-Global.is (subst (λ (x : Column). AreItemsFrom c.args.start (length c.args.items.now) (value_at value c.read_items-in-Global.new.items) x) (sums ∙ ap (λ (z : ℤ). global_for z (column_of_packed parts blocks)) reference) c.read_items-in-Global.ensures.items)

pub returns-in-PerBlock-clause-items : goal.returns-in-PerBlock-clause-items
returns-in-PerBlock-clause-items g c =
    let value = g.T.Number.value in
    let ptype = g.T.NativePType.PTYPE in
    let rs = map value c.as_slice-references.result.now in
    let slots = c.as_slice-references.ensures in
    let parts = parts_of c.args.column.now in
    let blocks = blocks_of c.args.widths in
    let own = rw c.in-PerBlock.is at c.requires.references in
    let sums = block_sums (plus_block_reference ptype rs) ptype rs parts blocks c.requires.typed (rw slots own.1) (λ j z h. plus_its_own ptype rs z j h) in
    rw c.in-PerBlock.is (subst (λ (x : Column). AreItemsFrom c.args.start (length c.args.items.now) (value_at value c.read_items-in-PerBlock.new.items) x) (sums ∙ ap (λ (zs : List ℤ). chunked_for zs parts.offset (column_of_packed parts blocks)) slots) c.read_items-in-PerBlock.ensures.items)
