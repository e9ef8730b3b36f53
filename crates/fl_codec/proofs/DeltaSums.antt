-- Blocks of differences, summed.
use Rattle.std.proofs.Common.{◌≡◌, ℕ, ℤ, pos, zero, suc, ◌+◌, ◌*◌, ◌%◌, ◌^◌, ◌<◌, ◌≤◌, ◌+ℤ◌, List, length, map, get_or, refl, ap, sym, ◌∙◌, arith}
use Rattle.std.proofs.Common.{take, drop, length-take, length-drop}
use Rattle.std.proofs.lemmas.List.{take-map, drop-map, get_or-take, get_or-drop}
use Rattle.fastlanes.specs.Layout.{place, segment_lane, segment_row, IsWordWidth}
use Rattle.fastlanes.specs.Delta.{delta_item, delta_sum, summed_item}
use Rattle.fastlanes.proofs.Bijection.{place_read, segment_placed}
use Rattle.fl_types.specs.declared.dtype.PType.{PType}
use Rattle.fl_types.specs.Integers.{bits_of_type, lanes_of_type, pattern_of, read_as, wrap}
use Rattle.std.proofs.Common.{IsTrue, Ok, Result}
use Rattle.fl_types.specs.declared.error.FastLanesError.{FastLanesError}
use Rattle.fl_types.specs.Refusals.{Answers}
use Rattle.fl_types.proofs.RefusalLaws.{Answers_view}
use Rattle.fl_types.specs.declared.validity.Validity.{Validity}
use Rattle.fl_types.specs.Bits.{tabulate}
use Rattle.fl_types.specs.Validities.{covers}
use Rattle.fl_column.specs.Columns.{PrimitiveParts, column_of_primitive}
use Rattle.fl_codec.specs.Deltas.{block_integer, delta_column, delta_integer, lane_sum}
use Rattle.fl_codec.proofs.FoRColumnLaws.{items_of-table}
use Rattle.fl_codec.proofs.Congruence.{IsPattern, IsPattern-add, IsPattern-mod, pattern_is, read_as-IsPattern, itself}
use Rattle.fl_codec.proofs.DeltaLaws.{lanes_is}

-- the patterns' sum is a pattern of the integers' sum
sum_is_pattern : (ptype : PType) (T lanes j l n : ℕ) (delta : ℕ → ℤ) (word : ℕ → ℕ) → IsWordWidth T lanes → l < lanes → n ≤ T → ((q : ℕ) → q < 1024 → word q ≡ pattern_of ptype (delta (1024 * j + q)))
    → IsPattern (2 ^ bits_of_type ptype) (lane_sum delta j l n) (delta_sum word l n)
unfolding lane_sum delta_sum
sum_is_pattern ptype T lanes j l zero delta word shape q h here = itself (2 ^ bits_of_type ptype) 0
sum_is_pattern ptype T lanes j l (suc n) delta word shape q h here =
    let inside = (place_read T lanes n l shape (omega arith) q).2 in
    rw (here (place n l) inside) (IsPattern-add (2 ^ bits_of_type ptype) (lane_sum delta j l n) (delta (1024 * j + place n l)) (delta_sum word l n) (pattern_of ptype (delta (1024 * j + place n l)))
    (sum_is_pattern ptype T lanes j l n delta word shape q (omega arith) here) (pattern_is ptype (delta (1024 * j + place n l))))

pub block_of_sums : (ptype : PType) (T lanes j : ℕ) (base delta : ℕ → ℤ) (row word item : ℕ → ℕ) → IsWordWidth T lanes → T ≡ bits_of_type ptype
    → ((l : ℕ) → l < lanes → row l ≡ pattern_of ptype (base (j * lanes + l))) → ((q : ℕ) → q < 1024 → word q ≡ pattern_of ptype (delta (1024 * j + q)))
    → ((q : ℕ) → q < 1024 → item q ≡ delta_item T row word q)
    → (q : ℕ) → q < 1024 → read_as ptype (item q) ≡ block_integer ptype base delta j q
unfolding block_integer delta_item summed_item
block_of_sums ptype T lanes j base delta row word item shape bits bases deltas items q h =
    let N : ℕ = 2 ^ bits_of_type ptype in
    let placed = segment_placed T lanes q shape h in
    let l = segment_lane T q in
    let r = segment_row T q in
    let same : lanes_of_type ptype ≡ lanes = sym (lanes_is ptype T lanes shape bits) in
    let z = base (j * lanes + l) +ℤ lane_sum delta j l (r + 1) in
    let here : item q ≡ (row l + delta_sum word l (r + 1)) % 2 ^ T = items q h in
    let first : IsPattern N (base (j * lanes + l)) (row l) = rw (bases l placed.2) (pattern_is ptype (base (j * lanes + l))) in
    let rest = sum_is_pattern ptype T lanes j l (r + 1) delta word shape placed.2 (omega arith) deltas in
    let all = IsPattern-mod N z (row l + delta_sum word l (r + 1)) (IsPattern-add N (base (j * lanes + l)) (lane_sum delta j l (r + 1)) (row l) (delta_sum word l (r + 1)) first rest) in
    let sum = row l + delta_sum word l (r + 1) in
    ap (read_as ptype) here ∙ (ap (λ n. read_as ptype (sum % 2 ^ n)) bits ∙ (read_as-IsPattern ptype z (sum % N) all
    ∙ (ap (λ n. wrap ptype (base (j * lanes + segment_lane n q) +ℤ lane_sum delta j (segment_lane n q) (segment_row n q + 1))) bits
    ∙ ap (λ m. wrap ptype (base (j * m + segment_lane (bits_of_type ptype) q) +ℤ lane_sum delta j (segment_lane (bits_of_type ptype) q) (segment_row (bits_of_type ptype) q + 1))) (sym same))))
