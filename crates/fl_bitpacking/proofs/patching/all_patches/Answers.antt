use Rattle.std.proofs.Common.{◌≡◌, length, ap, refl, sym, ◌∙◌}
use Rattle.std.proofs.lemmas.List.{length-map}
use Rattle.fl_patches.proofs.Parts.{sound}
use Rattle.fl_bitpacking.proofs.FoundBelow.{placed_of}
use Rattle.fl_bitpacking.proofs.patching.all_patches.Goals as goal

pub returns-clause-placed : goal.returns-clause-placed
returns-clause-placed g c =
    let p = c.args.patches.now in
    let values = c.as_slice-values.result.now in
    let read = c.as_slice-indices.ensures ∙ ap (λ q. q.slots) c.indices.ensures.indices in
    let beside = c.as_slice-values.ensures ∙ ap (λ q. q.slots) c.values.ensures in
    let long : length values ≡ length p.values.slots = sym (length-map values g.T.Number.value) ∙ ap length beside in
    rw (read, c.offset.ensures) (placed_of p (length values) (sound p c.indices.ensures.accepted) long)

pub returns-clause-values : goal.returns-clause-values
returns-clause-values g c i =
    let read = c.as_slice-indices.ensures ∙ ap (λ q. q.slots) c.indices.ensures.indices in
    let beside = c.as_slice-values.ensures ∙ ap (λ q. q.slots) c.values.ensures in
    rw (read, beside, c.offset.ensures) refl
