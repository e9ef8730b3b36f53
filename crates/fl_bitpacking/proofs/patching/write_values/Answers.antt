use Rattle.std.proofs.Common.{◌≡◌, ℕ, ℤ, ◌<◌, ◌+◌, ◌/◌, option_map, length, map, unsigned_abs, unwrap_or, pos, get_or, arith, refl, ap, sym, ◌∙◌, length-set}
use Rattle.std.proofs.lemmas.List.{get_or-map}
use Rattle.fl_bitpacking.specs.Blocks.{value_at}
use Rattle.fl_bitpacking.specs.BlockSums.{plus_block_reference}
use Rattle.fl_bitpacking.proofs.FoundBelow.{all_found, none_found, patch_more}
use Rattle.fl_patches.proofs.Rising.{length-numbers_by}
use Rattle.fl_patches.specs.PatchMaps.{rank_of}
use Rattle.fl_bitpacking.proofs.patching.write_values.Goals as goal

pub loop-k-init : goal.loop-k-init
loop-k-init g c = record {
  whole = refl;
  put = λ i h. ap (λ o. unwrap_or (option_map (plus_block_reference g.T.NativePType.PTYPE (map g.T.Number.value c.args.references.now) ((c.args.first + i) / 1024)) o) (value_at g.T.Number.value c.args.items.now i)) (sym (none_found (map g.T.Number.value c.args.placed.values.now) (rank_of (c.args.placed.offset + i) (map unsigned_abs (map g.I.Number.value c.args.placed.indices.now)))));
}

pub loop-k-preserved : goal.loop-k-preserved
loop-k-preserved g c =
    let value = g.T.Number.value in
    let xs = map unsigned_abs (map g.I.Number.value c.args.placed.indices.now) in
    let k = c.loop-k.k in
    let len = length-numbers_by g.I.Number.value c.args.placed.indices.now in
    let more = c.loop-k-test.true in
    let whole = c.loop-k.invariant.whole in
    let place = c.place_of-place.ensures in
    let within = c.requires.placed.within k (omega arith) in
    let even = c.requires.placed.even in
    let item = λ (n : ℕ) (z : ℤ). plus_block_reference g.T.NativePType.PTYPE (map value c.args.references.now) ((c.args.first + n) / 1024) z in
    let room : c.place_of-place.result < length c.loop-k.items = let high = within.1 in omega arith in
    let values = c.args.placed.values.now in
    let read : value (get_or values k c.index-placed-k.result) ≡ get_or (map value values) k (pos 0) = sym (get_or-map value values k c.index-placed-k.result (pos 0) (omega arith)) in
    let added = c.plus_reference-item.ensures ∙ ap (item c.place_of-place.result) read in
    let step = patch_more value item c.loop-k.items (value_at value c.args.items.now) (map value c.args.placed.values.now) xs c.args.placed.offset k c.place_of-place.result c.plus_reference-item.result c.requires.placed.rising (omega arith) (sym place) room added c.loop-k.invariant.put in
    record {
      whole = rw (c.write_at.ensures, length-set) whole;
      put = rw (c.write_at.ensures) (λ i h. step i (rw length-set at h));
    }

pub returns : goal.returns
returns g c i h =
    let xs = map unsigned_abs (map g.I.Number.value c.args.placed.indices.now) in
    let len = length-numbers_by g.I.Number.value c.args.placed.indices.now in
    let all : c.loop-k.k ≡ length xs = omega (arith, c.loop-k.auto) in
    let whole = c.loop-k.invariant.whole in
    c.loop-k.invariant.put i (omega arith) ∙ ap (λ o. unwrap_or (option_map (plus_block_reference g.T.NativePType.PTYPE (map g.T.Number.value c.args.references.now) ((c.args.first + i) / 1024)) o) (value_at g.T.Number.value c.args.items.now i)) (all_found (map g.T.Number.value c.args.placed.values.now) xs (c.args.placed.offset + i) c.loop-k.k all)

pub place_of-place-requires-clause-above : goal.place_of-place-requires-clause-above
place_of-place-requires-clause-above g c =
    let len = length-numbers_by g.I.Number.value c.args.placed.indices.now in
    let more = c.loop-k-test.true in
    (c.requires.placed.within c.loop-k.k (omega arith)).0

pub bounds-placed-k : goal.bounds-placed-k
bounds-placed-k g c =
    let len = length-numbers_by g.I.Number.value c.args.placed.indices.now in
    let more = c.loop-k-test.true in
    let even = c.requires.placed.even in
    omega arith

pub write_at-requires : goal.write_at-requires
write_at-requires g c =
    let len = length-numbers_by g.I.Number.value c.args.placed.indices.now in
    let more = c.loop-k-test.true in
    let whole = c.loop-k.invariant.whole in
    let place = c.place_of-place.ensures in
    let high = (c.requires.placed.within c.loop-k.k (omega arith)).1 in
    omega arith
