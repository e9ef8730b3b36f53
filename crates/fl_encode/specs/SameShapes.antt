-- When shapes are the same, and that this is an equivalence.
use Rattle.std.specs.Prelude.{◌≡◌, ◌==◌, ◌&&◌, Bool, true, false, refl}
use Rattle.std.proofs.Common.{ap, eq-eqb, sym, ◌∙◌}
use Rattle.std.proofs.lemmas.Bool.{eqb-true}
use Rattle.std.specs.Cmp.{IsEquivalence, both_ways}
use Rattle.fl_codec.specs.declared.for_.ItemOrder.{ItemOrder}
use Rattle.fl_codec.specs.declared.for_.ItemOrder.TheVariants.{Natural, Signed}
use Rattle.fl_encode.specs.declared.scheme.Packing.{Packing}
use Rattle.fl_encode.specs.declared.scheme.Packing.TheVariants.{BestWidth, BestWidths, Width}
use Rattle.fl_encode.specs.Shapes.{BitPacked, Constant, Delta, FoR, FoRChunked, Dictionary, Plain, Primitive, RLE, RunValues, Runs, Shape}

-- the orders are the same
abbrev pub same_order : ItemOrder → ItemOrder → Bool
same_order Natural Natural = true
same_order Signed Signed = true
same_order order other = false

-- the packings are the same
abbrev pub same_packing : Packing → Packing → Bool
same_packing BestWidth BestWidth = true
same_packing (Width width) (Width other) = width == other
same_packing BestWidths BestWidths = true
same_packing packing other = false

-- the run values are the same
abbrev pub same_run_values : RunValues → RunValues → Bool
same_run_values Runs Runs = true
same_run_values Dictionary Dictionary = true
same_run_values run_values other = false

-- the shapes are the same
abbrev pub same_shape : Shape → Shape → Bool
same_shape Plain Plain = true
same_shape Primitive Primitive = true
same_shape Constant Constant = true
same_shape (BitPacked packing) (BitPacked other) = same_packing packing other
same_shape (FoR order encoded) (FoR other e) = same_order order other && same_shape encoded e
same_shape (FoRChunked order encoded references) (FoRChunked other e r) = same_order order other && (same_shape encoded e && same_shape references r)
same_shape (Delta bases deltas) (Delta b d) = same_shape bases b && same_shape deltas d
same_shape (RLE run_values values indices offsets) (RLE other v i o) = same_run_values run_values other && (same_shape values v && (same_shape indices i && same_shape offsets o))
same_shape shape other = false

-- ---- the same are equal
same_order_is : (a b : ItemOrder) → same_order a b ≡ true → a ≡ b
same_order_is Natural Natural e = refl
same_order_is Signed Signed e = refl
same_order_is a b e = cc

same_packing_is : (a b : Packing) → same_packing a b ≡ true → a ≡ b
same_packing_is BestWidth BestWidth e = refl
same_packing_is (Width m) (Width n) e = ap Width (eqb-true m n e)
same_packing_is BestWidths BestWidths e = refl
same_packing_is a b e = cc

same_run_values_is : (a b : RunValues) → same_run_values a b ≡ true → a ≡ b
same_run_values_is Runs Runs e = refl
same_run_values_is Dictionary Dictionary e = refl
same_run_values_is a b e = cc

both : (a b : Bool) → (a && b) ≡ true → (a ≡ true) × (b ≡ true)
both true b e = (refl, e)
both false b e = cc

same_shape_is : (a b : Shape) → same_shape a b ≡ true → a ≡ b
same_shape_is Plain Plain e = refl
same_shape_is Primitive Primitive e = refl
same_shape_is Constant Constant e = refl
same_shape_is (BitPacked p) (BitPacked q) e = ap BitPacked (same_packing_is p q e)
same_shape_is (FoR o a) (FoR u b) e = let p = both _ _ e in λ i. FoR (same_order_is o u p.0 i) (same_shape_is a b p.1 i)
same_shape_is (FoRChunked o a r) (FoRChunked u b s) e = let p = both _ _ e in let q = both _ _ p.1 in λ i. FoRChunked (same_order_is o u p.0 i) (same_shape_is a b q.0 i) (same_shape_is r s q.1 i)
same_shape_is (Delta a r) (Delta b s) e = let p = both _ _ e in λ i. Delta (same_shape_is a b p.0 i) (same_shape_is r s p.1 i)
same_shape_is (RLE k a r v) (RLE l b s w) e =
    let p = both _ _ e in
    let q = both _ _ p.1 in
    let u = both _ _ q.1 in λ i. RLE (same_run_values_is k l p.0 i) (same_shape_is a b q.0 i) (same_shape_is r s u.0 i) (same_shape_is v w u.1 i)
same_shape_is a b e = cc

own_order : (a : ItemOrder) → same_order a a ≡ true
own_order Natural = refl
own_order Signed = refl

own_packing : (a : Packing) → same_packing a a ≡ true
own_packing BestWidth = refl
own_packing (Width m) = eq-eqb m m refl
own_packing BestWidths = refl

own_run_values : (a : RunValues) → same_run_values a a ≡ true
own_run_values Runs = refl
own_run_values Dictionary = refl

own_shape : (a : Shape) → same_shape a a ≡ true
own_shape Plain = refl
own_shape Primitive = refl
own_shape Constant = refl
own_shape (BitPacked p) = own_packing p
own_shape (FoR o a) = rw (own_order o, own_shape a) refl
own_shape (FoRChunked o a r) = rw (own_order o, own_shape a, own_shape r) refl
own_shape (Delta a r) = rw (own_shape a, own_shape r) refl
own_shape (RLE k a r v) = rw (own_run_values k, own_shape a, own_shape r, own_shape v) refl

follows : (x y : Shape) → same_shape x y ≡ true → same_shape y x ≡ true
follows x y e = ap (λ (z : Shape). same_shape z x) (sym (same_shape_is x y e)) ∙ own_shape x

-- sameness is an equivalence
pub same_shapes : IsEquivalence same_shape
same_shapes = record {
  refl = own_shape;
  symm = λ x y. both_ways (same_shape x y) (same_shape y x) (follows x y) (follows y x);
  congr = λ x y z e. ap (λ (w : Shape). same_shape w z) (same_shape_is x y e);
}
