use Rattle.std.proofs.Common.{◌≡◌, ◌≢◌, ◌+◌, ◌-◌, ◌<◌, ◌^◌, None, Some, Ok, get_or, subst, sym, refl, ◌∙◌, arith}
use Rattle.std.proofs.lemmas.Bool.{eq-eqb, ne_eqb}
use Rattle.fl_column.specs.Columns.{slice_primitive}
use Rattle.fl_column.specs.Numbers.{numbers}
use Rattle.fl_patches.specs.PatchMaps.{ArePatches, PatchesParts, patched, patches_before, refusal_of, slice_patches}
use Rattle.fl_patches.proofs.Parts.{ok_same, patches_none, patches_some, sound, unrefused_parts}
use Rattle.fl_patches.proofs.Slices.{before_in_order, before_within, cut, cut_is, first_at, none_cut, patched_cut, sound_cut}
use Rattle.fl_types.specs.Refusals.{Answers}
use Rattle.fl_types.proofs.Refused.{no_value, no_memory_there, only_memory}
use Rattle.fl_patches.proofs.patches.Patches.slice.Goals as goal

pub count_in-first-requires : goal.count_in-first-requires
count_in-first-requires c =
    let f = c.self.inside in
    let p : PatchesParts = record { array_len = f.array_len; offset = f.offset; indices = f.indices; values = f.values; chunk_offsets = f.chunk_offsets } in
    (sound p c.self.invariant).rising

pub count_in-last-requires : goal.count_in-last-requires
count_in-last-requires c =
    let f = c.self.inside in
    let p : PatchesParts = record { array_len = f.array_len; offset = f.offset; indices = f.indices; values = f.values; chunk_offsets = f.chunk_offsets } in
    (sound p c.self.invariant).rising

pub returns-then-first-last-clause-parts : goal.returns-then-first-last-clause-parts
returns-then-first-last-clause-parts c =
    let f = c.self.inside in
    let p : PatchesParts = record { array_len = f.array_len; offset = f.offset; indices = f.indices; values = f.values; chunk_offsets = f.chunk_offsets } in
    let same : patches_before c.args.range.start p ≡ patches_before c.args.range.end p = sym c.count_in-first.ensures ∙ (c.if-first-last.true ∙ c.count_in-last.ensures) in
    rw (← c.self.view_is, eq-eqb _ _ same) refl

pub returns-then-first-last-clause-map : goal.returns-then-first-last-clause-map
returns-then-first-last-clause-map c =
    let f = c.self.inside in
    let p : PatchesParts = record { array_len = f.array_len; offset = f.offset; indices = f.indices; values = f.values; chunk_offsets = f.chunk_offsets } in
    let s = sound p c.self.invariant in
    let same : patches_before c.args.range.start p ≡ patches_before c.args.range.end p = sym c.count_in-first.ensures ∙ (c.if-first-last.true ∙ c.count_in-last.ensures) in
    rw (← c.self.view_is) (patches_none (c.args.range.end - c.args.range.start) (λ i. patched p (c.args.range.start + i)) (λ i h. none_cut p c.args.range.start c.args.range.end i s same h))

pub number_at-index-requires : goal.number_at-index-requires
number_at-index-requires c =
    let f = c.self.inside in
    let p : PatchesParts = record { array_len = f.array_len; offset = f.offset; indices = f.indices; values = f.values; chunk_offsets = f.chunk_offsets } in
    let order = before_in_order p c.args.range.start c.args.range.end (sound p c.self.invariant) c.requires.order in
    let room = before_within p c.args.range.end in
    let first = c.count_in-first.ensures in
    let last = c.count_in-last.ensures in
    let other = c.if-first-last.false in
    omega arith

pub overflow_add-slice_offset : goal.overflow_add-slice_offset
overflow_add-slice_offset c =
    let f = c.self.inside in
    let p : PatchesParts = record { array_len = f.array_len; offset = f.offset; indices = f.indices; values = f.values; chunk_offsets = f.chunk_offsets } in
    let other : patches_before c.args.range.start p ≢ patches_before c.args.range.end p = λ e. c.if-first-last.false (c.count_in-first.ensures ∙ (e ∙ sym c.count_in-last.ensures)) in
    let low = first_at p c.args.range.start c.args.range.end (sound p c.self.invariant) c.requires.order other in
    let high : get_or (numbers p.indices) (patches_before c.args.range.start p) 0 < 2 ^ 64 = rw (← c.count_in-first.ensures, ← c.number_at-index.ensures) c.number_at-index.type_inv in
    omega arith

pub slice_of-requires-clause-order : goal.slice_of-requires-clause-order
slice_of-requires-clause-order c =
    let f = c.self.inside in
    let p : PatchesParts = record { array_len = f.array_len; offset = f.offset; indices = f.indices; values = f.values; chunk_offsets = f.chunk_offsets } in
    let order = before_in_order p c.args.range.start c.args.range.end (sound p c.self.invariant) c.requires.order in
    let first = c.count_in-first.ensures in
    let last = c.count_in-last.ensures in
    omega arith

pub slice_of-requires-clause-range : goal.slice_of-requires-clause-range
slice_of-requires-clause-range c =
    let f = c.self.inside in
    let p : PatchesParts = record { array_len = f.array_len; offset = f.offset; indices = f.indices; values = f.values; chunk_offsets = f.chunk_offsets } in
    let room = before_within p c.args.range.end in
    let last = c.count_in-last.ensures in
    omega arith

pub slice_of-requires-2-clause-order : goal.slice_of-requires-2-clause-order
slice_of-requires-2-clause-order c =
    let f = c.self.inside in
    let p : PatchesParts = record { array_len = f.array_len; offset = f.offset; indices = f.indices; values = f.values; chunk_offsets = f.chunk_offsets } in
    let order = before_in_order p c.args.range.start c.args.range.end (sound p c.self.invariant) c.requires.order in
    let first = c.count_in-first.ensures in
    let last = c.count_in-last.ensures in
    omega arith

pub slice_of-requires-2-clause-range : goal.slice_of-requires-2-clause-range
slice_of-requires-2-clause-range c =
    let f = c.self.inside in
    let p : PatchesParts = record { array_len = f.array_len; offset = f.offset; indices = f.indices; values = f.values; chunk_offsets = f.chunk_offsets } in
    let room = before_within p c.args.range.end in
    let even = (sound p c.self.invariant).even in
    let last = c.count_in-last.ensures in
    omega arith

pub invariant_of-result : goal.invariant_of-result
invariant_of-result c =
    let f = c.self.inside in
    let p : PatchesParts = record { array_len = f.array_len; offset = f.offset; indices = f.indices; values = f.values; chunk_offsets = f.chunk_offsets } in
    let start = c.args.range.start in
    let end = c.args.range.end in
    let first : c.count_in-first.result ≡ patches_before start p = c.count_in-first.ensures in
    let last : c.count_in-last.result ≡ patches_before end p = c.count_in-last.ensures in
    let other : patches_before start p ≢ patches_before end p = λ e. c.if-first-last.false (first ∙ (e ∙ sym last)) in
    let indices : c.in_ok-slice_of.field-0 ≡ slice_primitive c.count_in-first.result c.count_in-last.result p.indices = ok_same _ _ c.in_ok-slice_of.ensures in
    let values : c.in_ok-slice_of-2.field-0 ≡ slice_primitive c.count_in-first.result c.count_in-last.result p.values = ok_same _ _ c.in_ok-slice_of-2.ensures in
    let sliced = cut start end (patches_before start p) (patches_before end p) p in
    let same = cut_is p start end c.count_in-first.result c.count_in-last.result (patches_before start p) (patches_before end p) c.in_ok-slice_of.field-0 c.in_ok-slice_of-2.field-0 first last indices values in
    let holds : PatchesParts → Type 0 = λ q. refusal_of q ≡ None in
    subst holds (sym same) (unrefused_parts sliced (sound_cut p start end (sound p c.self.invariant) c.requires.order other) refl)

pub returns-clause-parts : goal.returns-clause-parts
returns-clause-parts c =
    let f = c.self.inside in
    let p : PatchesParts = record { array_len = f.array_len; offset = f.offset; indices = f.indices; values = f.values; chunk_offsets = f.chunk_offsets } in
    let start = c.args.range.start in
    let end = c.args.range.end in
    let first : c.count_in-first.result ≡ patches_before start p = c.count_in-first.ensures in
    let last : c.count_in-last.result ≡ patches_before end p = c.count_in-last.ensures in
    let other : patches_before start p ≢ patches_before end p = λ e. c.if-first-last.false (first ∙ (e ∙ sym last)) in
    let indices : c.in_ok-slice_of.field-0 ≡ slice_primitive c.count_in-first.result c.count_in-last.result p.indices = ok_same _ _ c.in_ok-slice_of.ensures in
    let values : c.in_ok-slice_of-2.field-0 ≡ slice_primitive c.count_in-first.result c.count_in-last.result p.values = ok_same _ _ c.in_ok-slice_of-2.ensures in
    let same = cut_is p start end c.count_in-first.result c.count_in-last.result (patches_before start p) (patches_before end p) c.in_ok-slice_of.field-0 c.in_ok-slice_of-2.field-0 first last indices values in
    let result : PatchesParts = record { array_len = end - start; offset = p.offset + start; indices = c.in_ok-slice_of.field-0; values = c.in_ok-slice_of-2.field-0; chunk_offsets = None } in
    let of_result : PatchesParts → Type 0 = λ q. Answers (λ o. o) (Ok (Some q)) (Ok (slice_patches start end p)) in
    let of_self : PatchesParts → Type 0 = λ q. Answers (λ o. o) (Ok (Some result)) (Ok (slice_patches start end q)) in
    subst of_self c.self.view_is (subst of_result (sym same) (rw (ne_eqb _ _ other) refl))

pub returns-clause-map : goal.returns-clause-map
returns-clause-map c =
    let f = c.self.inside in
    let p : PatchesParts = record { array_len = f.array_len; offset = f.offset; indices = f.indices; values = f.values; chunk_offsets = f.chunk_offsets } in
    let start = c.args.range.start in
    let end = c.args.range.end in
    let first : c.count_in-first.result ≡ patches_before start p = c.count_in-first.ensures in
    let last : c.count_in-last.result ≡ patches_before end p = c.count_in-last.ensures in
    let other : patches_before start p ≢ patches_before end p = λ e. c.if-first-last.false (first ∙ (e ∙ sym last)) in
    let indices : c.in_ok-slice_of.field-0 ≡ slice_primitive c.count_in-first.result c.count_in-last.result p.indices = ok_same _ _ c.in_ok-slice_of.ensures in
    let values : c.in_ok-slice_of-2.field-0 ≡ slice_primitive c.count_in-first.result c.count_in-last.result p.values = ok_same _ _ c.in_ok-slice_of-2.ensures in
    let s = sound p c.self.invariant in
    let sliced = cut start end (patches_before start p) (patches_before end p) p in
    let same = cut_is p start end c.count_in-first.result c.count_in-last.result (patches_before start p) (patches_before end p) c.in_ok-slice_of.field-0 c.in_ok-slice_of-2.field-0 first last indices values in
    let result : PatchesParts = record { array_len = end - start; offset = p.offset + start; indices = c.in_ok-slice_of.field-0; values = c.in_ok-slice_of-2.field-0; chunk_offsets = None } in
    let of_result : PatchesParts → Type 0 = λ q. ArePatches (Some q) (end - start) (λ i. patched p (start + i)) in
    let of_self : PatchesParts → Type 0 = λ q. ArePatches (Some result) (end - start) (λ i. patched q (start + i)) in
    subst of_self c.self.view_is (subst of_result (sym same) (patches_some sliced (λ i. patched p (start + i)) (sound_cut p start end s c.requires.order other) (λ i h. patched_cut p start end i s c.requires.order h)))

pub returns-in_err-slice_of-clause-parts : goal.returns-in_err-slice_of-clause-parts
returns-in_err-slice_of-clause-parts c = no_memory_there _ c.from_residual.result _ _ c.from_residual.ensures.1 (only_memory _ _ c.in_err-slice_of.ensures)

pub returns-in_err-slice_of-clause-map : goal.returns-in_err-slice_of-clause-map
returns-in_err-slice_of-clause-map c = no_value _ _ c.from_residual.result c.from_residual.ensures.1

pub returns-in_err-slice_of-2-clause-parts : goal.returns-in_err-slice_of-2-clause-parts
returns-in_err-slice_of-2-clause-parts c = no_memory_there _ c.from_residual-in_err-slice_of-2.result _ _ c.from_residual-in_err-slice_of-2.ensures.1 (only_memory _ _ c.in_err-slice_of-2.ensures)

pub returns-in_err-slice_of-2-clause-map : goal.returns-in_err-slice_of-2-clause-map
returns-in_err-slice_of-2-clause-map c = no_value _ _ c.from_residual-in_err-slice_of-2.result c.from_residual-in_err-slice_of-2.ensures.1
