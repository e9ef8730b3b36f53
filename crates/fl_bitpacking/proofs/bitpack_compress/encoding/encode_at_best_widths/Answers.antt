use Rattle.std.proofs.Common.{◌≡◌, ℕ, List, ◌∙◌, subst}
use Rattle.fl_column.specs.Columns.{column_of_primitive}
use Rattle.fl_bitpacking.specs.Blocks.{boundaries_of, boundary_blocks}
use Rattle.fl_bitpacking.specs.Columns.{column_of_packed}
use Rattle.fl_bitpacking.specs.Encoders.{IsPackedInBlocks}
use Rattle.fl_bitpacking.proofs.EncodedParts.{chosen_are}
use Rattle.fl_bitpacking.proofs.bitpack_compress.encoding.encode_at_best_widths.Goals as goal

pub returns-clause-parts : goal.returns-clause-parts
returns-clause-parts c =
    let p = c.args.array.now in
    let by : List ℕ → Type 0 = λ widths. IsPackedInBlocks p widths c.in_ok-packed.packed.0 in
    subst by (c.deref-2.ensures.value ∙ chosen_are p c.in_ok-widths.widths.items c.in_ok-widths.exceptions c.in_ok-widths.ensures.chosen) c.in_ok-packed.ensures.parts

pub returns-clause-column : goal.returns-clause-column
returns-clause-column c =
    let p = c.args.array.now in
    let by : List ℕ → Type 0 = λ widths. column_of_packed c.in_ok-packed.packed.0 (boundary_blocks (boundaries_of widths)) ≡ column_of_primitive p in
    subst by (c.deref-2.ensures.value ∙ chosen_are p c.in_ok-widths.widths.items c.in_ok-widths.exceptions c.in_ok-widths.ensures.chosen) c.in_ok-packed.ensures.column
