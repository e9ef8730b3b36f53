use Rattle.std.proofs.Common.{◌≡◌, ◌<◌, ℕ, pos, get_or, map, unsigned_abs}
use Rattle.fl_codec.proofs.rle.decoding.write_named.Given as goal

-- the items so far
abbrev pub invariant-loop-i : goal.invariant-loop-i
invariant-loop-i g l = (j : ℕ) → j < l.i → get_or (map g.T.Number.value l.items) j (pos 0) ≡ get_or (map g.T.Number.value l.values) (unsigned_abs (get_or (map g.I.Number.value l.indices) j (pos 0))) (pos 0)
