use Rattle.std.proofs.Common.{◌≡◌, ℕ, ◌+◌, ◌-◌, ◌∙◌, length, map, drop, take, ap, refl, sym, true, arith, length-take, length-drop}
use Rattle.std.proofs.lemmas.List.{length-map}
use Rattle.fl_patches.proofs.Parts.{sound}
use Rattle.fl_bitpacking.proofs.PartPatches.{first_index, none_placed, part_patched, part_placed}
use Rattle.fl_bitpacking.proofs.patching.ranges.patches_between.Goals as goal

pub returns-then-before-after-clause-placed : goal.returns-then-before-after-clause-placed
returns-then-before-after-clause-placed g c n last = record {
  even = refl;
  rising = refl;
  within = λ k h. absurd (omega arith);
}

pub returns-then-before-after-clause-values : goal.returns-then-before-after-clause-values
returns-then-before-after-clause-values g c n i last h =
    none_placed g.I.Number.value g.T.Number.value c.args.patches.now c.args.from n c.args.before c.args.after i c.indices.ensures.accepted c.requires.before last c.if-before-after.true h

pub overflow_add-offset : goal.overflow_add-offset
overflow_add-offset g c =
    let p = c.args.patches.now in
    let read = c.as_slice-indices.ensures ∙ ap (λ q. q.slots) c.indices.ensures.indices in
    let order = c.requires.order in
    let within = c.requires.within in
    let some = c.if-before-after.false in
    let low = first_index g.I.Number.value c.as_slice-indices.result.now p c.args.from c.args.before c.number_at-index.result c.indices.ensures.accepted read c.requires.before (omega arith) c.number_at-index.ensures in
    let at = c.offset.ensures in
    omega (arith, c.number_at-index.type_inv)

pub number_at-index-requires : goal.number_at-index-requires
number_at-index-requires g c =
    let p = c.args.patches.now in
    let read = c.as_slice-indices.ensures ∙ ap (λ q. q.slots) c.indices.ensures.indices in
    let long : length c.as_slice-indices.result.now ≡ length p.indices.slots = sym (length-map c.as_slice-indices.result.now g.I.Number.value) ∙ ap length read in
    let order = c.requires.order in
    let within = c.requires.within in
    let some = c.if-before-after.false in
    omega arith

pub part_of-indices-requires-clause-within : goal.part_of-indices-requires-clause-within
part_of-indices-requires-clause-within g c =
    let p = c.args.patches.now in
    let read = c.as_slice-indices.ensures ∙ ap (λ q. q.slots) c.indices.ensures.indices in
    let long : length c.as_slice-indices.result.now ≡ length p.indices.slots = sym (length-map c.as_slice-indices.result.now g.I.Number.value) ∙ ap length read in
    let within = c.requires.within in
    omega arith

pub part_of-values-requires-clause-within : goal.part_of-values-requires-clause-within
part_of-values-requires-clause-within g c =
    let p = c.args.patches.now in
    let beside = c.as_slice-values.ensures ∙ ap (λ q. q.slots) c.values.ensures in
    let even = (sound p c.indices.ensures.accepted).even in
    let long : length c.as_slice-values.result.now ≡ length p.values.slots = sym (length-map c.as_slice-values.result.now g.T.Number.value) ∙ ap length beside in
    let within = c.requires.within in
    omega arith

pub returns-clause-placed : goal.returns-clause-placed
returns-clause-placed g c n last =
    let p = c.args.patches.now in
    let read = c.as_slice-indices.ensures ∙ ap (λ q. q.slots) c.indices.ensures.indices in
    let beside = c.as_slice-values.ensures ∙ ap (λ q. q.slots) c.values.ensures in
    let s = sound p c.indices.ensures.accepted in
    let even = s.even in
    let order = c.requires.order in
    let within = c.requires.within in
    let values = c.as_slice-values.result.now in
    let long : length values ≡ length p.values.slots = sym (length-map values g.T.Number.value) ∙ ap length beside in
    let part : length (take (c.args.after - c.args.before) (drop c.args.before values)) ≡ c.args.after - c.args.before = omega (arith, length-take (c.args.after - c.args.before) (drop c.args.before values), length-drop c.args.before values) in
    rw (c.part_of-indices.ensures, c.part_of-values.ensures) (part_placed g.I.Number.value c.as_slice-indices.result.now p c.args.from n c.args.before c.args.after _ (c.offset.result + c.args.from) s read c.requires.before last part (ap (λ (n : ℕ). n + c.args.from) c.offset.ensures))

pub returns-clause-values : goal.returns-clause-values
returns-clause-values g c n i last h =
    let p = c.args.patches.now in
    let value = g.T.Number.value in
    let indices = c.as_slice-indices.result.now in
    let values = c.as_slice-values.result.now in
    let read = c.as_slice-indices.ensures ∙ ap (λ q. q.slots) c.indices.ensures.indices in
    let beside = c.as_slice-values.ensures ∙ ap (λ q. q.slots) c.values.ensures in
    let s = sound p c.indices.ensures.accepted in
    rw (c.part_of-indices.ensures, c.part_of-values.ensures) (part_patched g.I.Number.value value indices values p c.args.from n c.args.before c.args.after (c.offset.result + c.args.from) i s read beside c.requires.before last (ap (λ (n : ℕ). n + c.args.from) c.offset.ensures) h)
