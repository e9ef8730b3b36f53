use Rattle.std.proofs.Common.{◌≡◌, ℕ, ℤ, ◌+◌, ◌*◌, ◌<◌, ◌≤◌, IsTrue, length, map, take, unwrap_or}
use Rattle.fastlanes.specs.Layout.{pattern_at}
use Rattle.fl_types.specs.Integers.{fits, pattern_of}
use Rattle.fl_types.specs.Validities.{items_of}
use Rattle.fl_types.specs.declared.validity.Validity.TheVariants.{Array}
use Rattle.fl_codec.specs.Chunks.{chunk}
use Rattle.fl_codec.specs.ForwardFill.{filled_from, last_some}
use Rattle.fl_codec.proofs.fill_forward.fill_part.Given as goal

-- the positions so far, where `before` is what is carried from the first item
abbrev pub invariant-loop-i : goal.invariant-loop-i
invariant-loop-i g l =
    let value = g.T.Number.value in
    let ptype = g.T.NativePType.PTYPE in
    let at = 64 * l.j in
    let items = chunk l.k (items_of (Array l.bits) (map value l.items)) in record {
      last : (first : ℤ) → value l.fn.before ≡ unwrap_or (last_some (take at items)) first → value l.last ≡ unwrap_or (last_some (take (at + l.i) items)) first;
      done : (first : ℤ) → value l.fn.before ≡ unwrap_or (last_some (take at items)) first → (q : ℕ) → at ≤ q → q < at + l.i → pattern_at g.T.Physical.FastLanes.pattern l.block q ≡ pattern_of ptype (filled_from first items q);
      fit : (first : ℤ) → value l.fn.before ≡ unwrap_or (last_some (take at items)) first → (q : ℕ) → at ≤ q → q < at + l.i → IsTrue (fits ptype (filled_from first items q));
      others : (q : ℕ) → q < at → pattern_at g.T.Physical.FastLanes.pattern l.block q ≡ pattern_at g.T.Physical.FastLanes.pattern l.fn.block q;
      whole : length l.block ≡ 1024;
    }
