-- Patterns of the sums of delta blocks.
use Rattle.std.proofs.Common.{◌≡◌, ℕ, ℤ, pos, ◌+◌, ◌*◌, ◌<◌, ◌^◌, ◌%◌, ◌+ℤ◌, ap, sym, ◌∙◌, arith}
use Rattle.std.proofs.Math.Nat.{mod-lt}
use Rattle.std.proofs.lemmas.Int.{ints}
use Rattle.std.proofs.lemmas.Nat.{pow_pos}
use Rattle.fastlanes.specs.Delta.{delta_item, delta_sum, summed_item}
use Rattle.fastlanes.specs.Layout.{segment_lane, segment_row}
use Rattle.fl_types.specs.declared.dtype.PType.{PType}
use Rattle.fl_types.specs.Integers.{bits_of_type, lanes_of_type, pattern_of, read_as, wrap}
use Rattle.fl_codec.specs.Deltas.{block_integer, lane_sum}
use Rattle.fl_codec.proofs.Congruence.{pattern_is, read_as-IsPattern}
use Rattle.fl_codec.proofs.FoRRoundTrips.{wrap-wrap_left}

-- a sum is a pattern of the type
pub sum_small : (ptype : PType) (T : ℕ) (base delta : ℕ → ℕ) (i : ℕ) → T ≡ bits_of_type ptype → delta_item T base delta i < 2 ^ bits_of_type ptype
unfolding delta_item summed_item
sum_small ptype T base delta i bits = rw bits (mod-lt (base (segment_lane (bits_of_type ptype) i) + delta_sum delta (segment_lane (bits_of_type ptype) i) (segment_row (bits_of_type ptype) i + 1)) (pow_pos (bits_of_type ptype)))

wrapped_again : (t : PType) (z : ℤ) → wrap t (wrap t z) ≡ wrap t z
wrapped_again t z =
    let none : (y : ℤ) → y +ℤ pos 0 ≡ y = λ y. omega (arith, ints) in
    ap (wrap t) (sym (none (wrap t z))) ∙ (wrap-wrap_left t z (pos 0) ∙ ap (wrap t) (none z))

-- an integer of a block is read from its pattern
pub integer_read : (ptype : PType) (base delta : ℕ → ℤ) (j q : ℕ) → read_as ptype (pattern_of ptype (block_integer ptype base delta j q)) ≡ block_integer ptype base delta j q
unfolding block_integer
integer_read ptype base delta j q =
    let l = segment_lane (bits_of_type ptype) q in
    let z = base (j * lanes_of_type ptype + l) +ℤ lane_sum delta j l (segment_row (bits_of_type ptype) q + 1) in
    read_as-IsPattern ptype (wrap ptype z) (pattern_of ptype (wrap ptype z)) (pattern_is ptype (wrap ptype z)) ∙ wrapped_again ptype z
