-- Statistics that a test finds equal.
use Rattle.std.proofs.Common.{◌≡◌, ◌&&◌, Bool, true, false, eqb, Option, Some, None, IsTrue, refl, ap, sym, ◌∙◌}
use Rattle.std.specs.Prelude.{◌≢◌}
use Rattle.std.specs.Bool.{beq}
use Rattle.std.specs.Option.{option_eq}
use Rattle.std.specs.Ordering.{int_eq}
use Rattle.std.proofs.lemmas.Bool.{and_from, and_parts, eq-eqb, eqb-true}
use Rattle.std.proofs.lemmas.Bool.Decides.{Decides-int_eq}
use Rattle.fl_file.specs.declared.statistics.ChunkStatistics.{ChunkStatistics}
use Rattle.fl_file.specs.declared.statistics.Extremes.{Extremes}

abbrev pub same_extremes : Option Extremes → Option Extremes → Bool
same_extremes a b = option_eq (λ x y. int_eq x.least y.least && int_eq x.greatest y.greatest) a b

abbrev pub same_by : ChunkStatistics → ChunkStatistics → Bool
same_by a b = eqb a.len b.len && (eqb a.null_count b.null_count && (same_extremes a.extremes b.extremes && (beq a.is_sorted b.is_sorted && int_eq a.sum b.sum)))

beq_is : (a b : Bool) → beq a b ≡ true → a ≡ b
beq_is true true h = refl
beq_is true false h = absurd cc
beq_is false true h = absurd cc
beq_is false false h = refl

beq_same : (a : Bool) → beq a a ≡ true
beq_same true = refl
beq_same false = refl

extremes_is : (a b : Option Extremes) → same_extremes a b ≡ true → a ≡ b
extremes_is None None h = refl
extremes_is None (Some e) h = absurd cc
extremes_is (Some d) None h = absurd cc
extremes_is (Some d) (Some e) h =
    let both = and_parts (int_eq d.least e.least) (int_eq d.greatest e.greatest) h in
    let least = (Decides-int_eq d.least e.least).0 both.0 in
    let greatest = (Decides-int_eq d.greatest e.greatest).0 both.1 in
    ap (λ z. Some (record { least = z; greatest = d.greatest })) least ∙ ap (λ z. Some (record { least = e.least; greatest = z })) greatest

extremes_same : (a : Option Extremes) → same_extremes a a ≡ true
extremes_same None = refl
extremes_same (Some e) = and_from (int_eq e.least e.least) (int_eq e.greatest e.greatest) ((Decides-int_eq e.least e.least).1 refl) ((Decides-int_eq e.greatest e.greatest).1 refl)

pub same_true : (a b : ChunkStatistics) → same_by a b ≡ true → a ≡ b
same_true a b h =
    let one = and_parts (eqb a.len b.len) (eqb a.null_count b.null_count && (same_extremes a.extremes b.extremes && (beq a.is_sorted b.is_sorted && int_eq a.sum b.sum))) h in
    let two = and_parts (eqb a.null_count b.null_count) (same_extremes a.extremes b.extremes && (beq a.is_sorted b.is_sorted && int_eq a.sum b.sum)) one.1 in
    let three = and_parts (same_extremes a.extremes b.extremes) (beq a.is_sorted b.is_sorted && int_eq a.sum b.sum) two.1 in
    let four = and_parts (beq a.is_sorted b.is_sorted) (int_eq a.sum b.sum) three.1 in
    let len = eqb-true a.len b.len one.0 in
    let nulls = eqb-true a.null_count b.null_count two.0 in
    let extremes = extremes_is a.extremes b.extremes three.0 in
    let sorted = beq_is a.is_sorted b.is_sorted four.0 in
    let sum = (Decides-int_eq a.sum b.sum).0 four.1 in
    ap (λ x. record { len = x; null_count = a.null_count; extremes = a.extremes; is_sorted = a.is_sorted; sum = a.sum }) len
    ∙ (ap (λ x. record { len = b.len; null_count = x; extremes = a.extremes; is_sorted = a.is_sorted; sum = a.sum }) nulls
    ∙ (ap (λ x. record { len = b.len; null_count = b.null_count; extremes = x; is_sorted = a.is_sorted; sum = a.sum }) extremes
    ∙ (ap (λ x. record { len = b.len; null_count = b.null_count; extremes = b.extremes; is_sorted = x; sum = a.sum }) sorted
    ∙ ap (λ x. record { len = b.len; null_count = b.null_count; extremes = b.extremes; is_sorted = b.is_sorted; sum = x }) sum)))

same_itself : (a : ChunkStatistics) → same_by a a ≡ true
same_itself a =
    and_from (eqb a.len a.len) (eqb a.null_count a.null_count && (same_extremes a.extremes a.extremes && (beq a.is_sorted a.is_sorted && int_eq a.sum a.sum))) (eq-eqb a.len a.len refl)
    (and_from (eqb a.null_count a.null_count) (same_extremes a.extremes a.extremes && (beq a.is_sorted a.is_sorted && int_eq a.sum a.sum)) (eq-eqb a.null_count a.null_count refl)
    (and_from (same_extremes a.extremes a.extremes) (beq a.is_sorted a.is_sorted && int_eq a.sum a.sum) (extremes_same a.extremes)
    (and_from (beq a.is_sorted a.is_sorted) (int_eq a.sum a.sum) (beq_same a.is_sorted) ((Decides-int_eq a.sum a.sum).1 refl))))

not_both : (b : Bool) → b ≡ true → b ≡ false → ⊥
not_both b p q = absurd cc

pub same_false : (a b : ChunkStatistics) → same_by a b ≡ false → a ≢ b
same_false a b h is = not_both (same_by a b) (ap (same_by a) (sym is) ∙ same_itself a) h
