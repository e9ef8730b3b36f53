use Rattle.std.proofs.Common.{◌≡◌, ℕ, ◌*◌, ◌<◌, IsTrue, length, map, take, unwrap_or}
use Rattle.fastlanes.specs.Layout.{pattern_at}
use Rattle.fl_types.specs.Integers.{fits, pattern_of}
use Rattle.fl_types.specs.Validities.{items_of}
use Rattle.fl_types.specs.declared.validity.Validity.TheVariants.{Array}
use Rattle.fl_codec.specs.Chunks.{chunk}
use Rattle.fl_codec.specs.ForwardFill.{filled_from, last_some}
use Rattle.fl_codec.proofs.fill_forward.fill_chunk_by_words.Given as goal

-- the parts so far
abbrev pub invariant-loop-j : goal.invariant-loop-j
invariant-loop-j g l =
    let value = g.T.Number.value in
    let ptype = g.T.NativePType.PTYPE in
    let items = chunk l.k (items_of (Array l.bits) (map value l.items)) in record {
      last : value l.last ≡ unwrap_or (last_some (take (64 * l.j) items)) (value l.fn.before);
      done : (q : ℕ) → q < 64 * l.j → pattern_at g.T.Physical.FastLanes.pattern l.block q ≡ pattern_of ptype (filled_from (value l.fn.before) items q);
      fit : (q : ℕ) → q < 64 * l.j → IsTrue (fits ptype (filled_from (value l.fn.before) items q));
      whole : length l.block ≡ 1024;
    }
