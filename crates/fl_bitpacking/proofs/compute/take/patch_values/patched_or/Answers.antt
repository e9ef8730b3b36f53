use Rattle.std.proofs.Common.{◌≡◌, ◌∙◌, pos, Some, ap, sym, arith}
use Rattle.std.proofs.lemmas.List.{get_or-map}
use Rattle.fl_column.specs.Numbers.{numbers_by}
use Rattle.fl_patches.specs.PatchMaps.{rank_of}
use Rattle.fl_patches.proofs.Rising.{length-numbers_by, rank_at}
use Rattle.fl_bitpacking.proofs.compute.take.patch_values.patched_or.Goals as goal

pub offset_bounds-values-rank : goal.offset_bounds-values-rank
offset_bounds-values-rank g c =
    let xs = numbers_by g.I.Number.value c.args.indices.now in
    let found : rank_of c.args.index xs ≡ Some c.in-Some.rank = sym c.rank_between.ensures ∙ c.in-Some.is in
    let inside = (rank_at xs c.args.index c.in-Some.rank found).0 in
    let long = length-numbers_by g.I.Number.value c.args.indices.now in
    let even = c.requires.even in
    omega arith

pub bounds-values-rank : goal.bounds-values-rank
bounds-values-rank g c =
    let xs = numbers_by g.I.Number.value c.args.indices.now in
    let found : rank_of c.args.index xs ≡ Some c.in-Some.rank = sym c.rank_between.ensures ∙ c.in-Some.is in
    let inside = (rank_at xs c.args.index c.in-Some.rank found).0 in
    let long = length-numbers_by g.I.Number.value c.args.indices.now in
    let even = c.requires.even in
    omega arith

pub returns-in-Some : goal.returns-in-Some
returns-in-Some g c =
    let xs = numbers_by g.I.Number.value c.args.indices.now in
    let found : rank_of c.args.index xs ≡ Some c.in-Some.rank = sym c.rank_between.ensures ∙ c.in-Some.is in
    let inside = (rank_at xs c.args.index c.in-Some.rank found).0 in
    let long = length-numbers_by g.I.Number.value c.args.indices.now in
    let even = c.requires.even in
    rw found (ap g.T.Number.value c.index-values-rank.is ∙ sym (get_or-map g.T.Number.value c.args.values.now c.in-Some.rank c.index-values-rank.result (pos 0) (omega arith)))
