use Rattle.std.proofs.Common.{◌≡◌, ◌+◌, ◌/◌, ◌∙◌, pos, get_or, Some, option_map, refl, subst, sym, arith, ap, unsigned_abs}
use Rattle.std.proofs.lemmas.List.{length-map}
use Rattle.fl_column.specs.Numbers.{numbers}
use Rattle.fl_patches.specs.PatchMaps.{IsChunkRange, PatchesParts, rank_of}
use Rattle.fl_patches.proofs.Parts.{sound}
use Rattle.fl_patches.proofs.Rising.{rank_at}
use Rattle.fl_patches.proofs.patches.Patches.get_patched.Goals as goal

pub rank_in-requires-clause-rising : goal.rank_in-requires-clause-rising
rank_in-requires-clause-rising c =
    let f = c.self.inside in
    let p : PatchesParts = record { array_len = f.array_len; offset = f.offset; indices = f.indices; values = f.values; chunk_offsets = f.chunk_offsets } in
    (sound p c.self.invariant).rising

pub rank_in-requires-clause-range : goal.rank_in-requires-clause-range
rank_in-requires-clause-range c =
    let of : PatchesParts → Type 0 = λ p. IsChunkRange p (c.args.i / 1024) c.search_range-start.result.0 c.search_range-start.result.1 in
    subst of (sym c.self.view_is) c.search_range-start.ensures.range c.args.i refl

pub value_in-requires-clause-valued : goal.value_in-requires-clause-valued
value_in-requires-clause-valued c =
    let f = c.self.inside in
    let p : PatchesParts = record { array_len = f.array_len; offset = f.offset; indices = f.indices; values = f.values; chunk_offsets = f.chunk_offsets } in
    (sound p c.self.invariant).valued

pub value_in-requires-clause-range : goal.value_in-requires-clause-range
value_in-requires-clause-range c =
    let f = c.self.inside in
    let p : PatchesParts = record { array_len = f.array_len; offset = f.offset; indices = f.indices; values = f.values; chunk_offsets = f.chunk_offsets } in
    let s = sound p c.self.invariant in
    let at = rank_at (numbers p.indices) (p.offset + c.args.i) c.in_ok-rank.rank (sym c.rank_in.ensures ∙ c.in_ok-rank.was) in
    omega (arith, length-map p.indices.slots unsigned_abs)

pub returns-clause-value : goal.returns-clause-value
returns-clause-value c =
    let p = c.self.inside in
    let is : rank_of (p.offset + c.args.i) (numbers p.indices) ≡ Some c.in_ok-rank.rank = sym c.rank_in.ensures ∙ c.in_ok-rank.was in
    rw (c.value_in.ensures.value, ← c.self.view_is) (sym (ap (option_map (λ rank. get_or p.values.slots rank (pos 0))) is))
