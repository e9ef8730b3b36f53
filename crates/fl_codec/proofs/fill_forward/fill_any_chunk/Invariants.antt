use Rattle.std.proofs.Common.{◌≡◌, ℕ, ◌<◌, IsTrue, length, map, take, unwrap_or}
use Rattle.fastlanes.specs.Layout.{pattern_at}
use Rattle.fl_types.specs.Integers.{fits, pattern_of}
use Rattle.fl_types.specs.Validities.{items_of}
use Rattle.fl_codec.specs.Chunks.{chunk}
use Rattle.fl_codec.specs.ForwardFill.{filled_from, last_some}
use Rattle.fl_codec.proofs.fill_forward.fill_any_chunk.Given as goal

-- the positions so far
abbrev pub invariant-loop-q : goal.invariant-loop-q
invariant-loop-q g l =
    let value = g.T.Number.value in
    let ptype = g.T.NativePType.PTYPE in
    let items = chunk l.k (items_of l.validity (map value l.items)) in record {
      last : value l.last ≡ unwrap_or (last_some (take l.q items)) (value l.fn.before);
      done : (j : ℕ) → j < l.q → pattern_at g.T.Physical.FastLanes.pattern l.block j ≡ pattern_of ptype (filled_from (value l.fn.before) items j);
      fit : (j : ℕ) → j < l.q → IsTrue (fits ptype (filled_from (value l.fn.before) items j));
      whole : length l.block ≡ 1024;
    }
