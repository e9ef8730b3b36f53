use Rattle.std.proofs.Common.{Ok, sym, ap, ◌∙◌, arith}
use Rattle.std.specs.Prelude.{Result}
use Rattle.fl_types.specs.declared.error.FastLanesError.{FastLanesError}
use Rattle.fl_column.specs.Columns.{Column}
use Rattle.fl_column.specs.Operations.{slice_of}
use Rattle.fl_array.specs.BitPackedArrays.{bit_widths_refusal}
use Rattle.fl_array.specs.Trees.{Tree, column}
use Rattle.fl_array.proofs.BlockedLaws.{blocked_column, ends_read}
use Rattle.fl_array.proofs.SliceLaws.{blocked_bitpacked}
use Rattle.fl_patches.proofs.Parts.{ok_same}
use Rattle.fl_array.proofs.bitpacking.BitPackedArray.slice_blocked.Goals as goal

pub slice_blocked-requires-clause-first : goal.slice_blocked-requires-clause-first
slice_blocked-requires-clause-first c =
    let len = c.len-len.ensures.len in
    let items = c.len-len.ensures.items in
    let range = c.requires.range in
    (ends_read c.args.self.now c.args.boundaries.now c.args.start c.args.end _ _ _ _ _ _ c.prove_well_formed.ensures c.requires.same c.requires.order (omega arith) c.requires.first c.requires.from c.requires.to c.number_of_scalar-first.ensures c.number_of_scalar-from.ensures c.number_of_scalar-to.ensures).low

pub slice_blocked-requires-clause-bytes : goal.slice_blocked-requires-clause-bytes
slice_blocked-requires-clause-bytes c =
    let len = c.len-len.ensures.len in
    let items = c.len-len.ensures.items in
    let range = c.requires.range in
    (ends_read c.args.self.now c.args.boundaries.now c.args.start c.args.end _ _ _ _ _ _ c.prove_well_formed.ensures c.requires.same c.requires.order (omega arith) c.requires.first c.requires.from c.requires.to c.number_of_scalar-first.ensures c.number_of_scalar-from.ensures c.number_of_scalar-to.ensures).order

pub slice_blocked-requires-clause-room : goal.slice_blocked-requires-clause-room
slice_blocked-requires-clause-room c =
    let len = c.len-len.ensures.len in
    let items = c.len-len.ensures.items in
    let range = c.requires.range in
    rw c.packed_data.ensures (ends_read c.args.self.now c.args.boundaries.now c.args.start c.args.end _ _ _ _ _ _ c.prove_well_formed.ensures c.requires.same c.requires.order (omega arith) c.requires.first c.requires.from c.requires.to c.number_of_scalar-first.ensures c.number_of_scalar-from.ensures c.number_of_scalar-to.ensures).room

pub invariant_of-result : goal.invariant_of-result
invariant_of-result c =
    let a = c.args.self.now in
    let len = c.len-len.ensures.len in
    let items = c.len-len.ensures.items in
    let range = c.requires.range in
    let read = ends_read a c.args.boundaries.now c.args.start c.args.end _ _ _ _ _ _ c.prove_well_formed.ensures c.requires.same c.requires.order (omega arith) c.requires.first c.requires.from c.requires.to c.number_of_scalar-first.ensures c.number_of_scalar-from.ensures c.number_of_scalar-to.ensures in
    let none = ap (bit_widths_refusal a.parts) c.requires.same ∙ c.prove_well_formed.ensures in
    let slice = (rw c.packed_data.ensures at c.in_ok-parts.ensures.blocked) (column c.args.boundaries.now) read.has none in
    rw (c.in_ok-boundaries.ensures.ok, c.requires.part) slice.sound

pub returns-clause-column : goal.returns-clause-column
returns-clause-column c =
    let a = c.args.self.now in
    let len = c.len-len.ensures.len in
    let items = c.len-len.ensures.items in
    let range = c.requires.range in
    let read = ends_read a c.args.boundaries.now c.args.start c.args.end _ _ _ _ _ _ c.prove_well_formed.ensures c.requires.same c.requires.order (omega arith) c.requires.first c.requires.from c.requires.to c.number_of_scalar-first.ensures c.number_of_scalar-from.ensures c.number_of_scalar-to.ensures in
    let none = ap (bit_widths_refusal a.parts) c.requires.same ∙ c.prove_well_formed.ensures in
    let slice = (rw c.packed_data.ensures at c.in_ok-parts.ensures.blocked) (column c.args.boundaries.now) read.has none in
    let ok : Column → Result Column FastLanesError = λ x. Ok x in
    rw (c.in_ok-boundaries.ensures.ok, c.requires.part) (ap ok (ap (slice_of c.args.start c.args.end) (blocked_column a c.args.boundaries.now c.requires.same) ∙ sym slice.column))

pub returns-clause-tree : goal.returns-clause-tree
returns-clause-tree c =
    let a = c.args.self.now in
    let len = c.len-len.ensures.len in
    let items = c.len-len.ensures.items in
    let range = c.requires.range in
    let read = ends_read a c.args.boundaries.now c.args.start c.args.end _ _ _ _ _ _ c.prove_well_formed.ensures c.requires.same c.requires.order (omega arith) c.requires.first c.requires.from c.requires.to c.number_of_scalar-first.ensures c.number_of_scalar-from.ensures c.number_of_scalar-to.ensures in
    let parts = sym (ok_same _ _ (rw c.packed_data.ensures at c.in_ok-parts.ensures.parts)) in
    let ok : Tree → Result Tree FastLanesError = λ t. Ok t in
    ap ok (blocked_bitpacked a c.args.boundaries.now c.in_ok-boundaries.boundaries.value c.args.start c.args.end _ _ _ c.in_ok-parts.parts c.requires.same read.has parts (c.in_ok-boundaries.ensures.ok ∙ c.requires.tree))
