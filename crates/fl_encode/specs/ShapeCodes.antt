-- A code for shapes, which the type that is seen as one has to have.
use Rattle.std.specs.Prelude.{◌≡◌, zero, suc, refl}
use Rattle.std.specs.Coded.{Coded, code_by}
use Rattle.std.proofs.Common.{ap}
use base.Stored.{Gv, gcons, gnil, gnum}
use denote.Struct.Codes.{itself}
use Rattle.fl_codec.specs.declared.for_.ItemOrder.TheVariants.{Natural, Signed}
use Rattle.fl_encode.specs.declared.scheme.Packing.TheVariants.{BestWidth, BestWidths, Width}
use Rattle.fl_encode.specs.Shapes.{BitPacked, Constant, Delta, FoR, FoRChunked, Dictionary, Plain, Primitive, RLE, Runs, Shape}

-- a shape as a tree of numbers
abbrev pub tree_of : Shape → Gv
tree_of Plain = gnil
tree_of Primitive = gnum 0
tree_of Constant = gnum 1
tree_of (BitPacked BestWidth) = gnum 2
tree_of (BitPacked BestWidths) = gnum 3
tree_of (BitPacked (Width width)) = gnum (suc (suc (suc (suc width))))
tree_of (FoR Natural encoded) = gcons (gnum 0) (tree_of encoded)
tree_of (FoR Signed encoded) = gcons (gnum 1) (tree_of encoded)
tree_of (FoRChunked Natural encoded references) = gcons (gnum 2) (gcons (tree_of encoded) (tree_of references))
tree_of (FoRChunked Signed encoded references) = gcons (gnum 3) (gcons (tree_of encoded) (tree_of references))
tree_of (Delta bases deltas) = gcons gnil (gcons (tree_of bases) (tree_of deltas))
tree_of (RLE Runs values indices offsets) = gcons (gcons (tree_of values) (tree_of indices)) (tree_of offsets)
tree_of (RLE Dictionary values indices offsets) = gcons (gnum 4) (gcons (tree_of values) (gcons (tree_of indices) (tree_of offsets)))

-- the shape of such a tree
abbrev pub shape_of_tree : Gv → Shape
shape_of_tree gnil = Plain
shape_of_tree (gnum zero) = Primitive
shape_of_tree (gnum (suc zero)) = Constant
shape_of_tree (gnum (suc (suc zero))) = BitPacked BestWidth
shape_of_tree (gnum (suc (suc (suc zero)))) = BitPacked BestWidths
shape_of_tree (gnum (suc (suc (suc (suc width))))) = BitPacked (Width width)
shape_of_tree (gcons (gnum zero) encoded) = FoR Natural (shape_of_tree encoded)
shape_of_tree (gcons (gnum (suc zero)) encoded) = FoR Signed (shape_of_tree encoded)
shape_of_tree (gcons (gnum (suc (suc zero))) (gcons encoded references)) = FoRChunked Natural (shape_of_tree encoded) (shape_of_tree references)
shape_of_tree (gcons (gnum (suc (suc (suc zero)))) (gcons encoded references)) = FoRChunked Signed (shape_of_tree encoded) (shape_of_tree references)
shape_of_tree (gcons (gnum (suc (suc (suc (suc n))))) (gcons values (gcons indices offsets))) = RLE Dictionary (shape_of_tree values) (shape_of_tree indices) (shape_of_tree offsets)
shape_of_tree (gcons gnil (gcons bases deltas)) = Delta (shape_of_tree bases) (shape_of_tree deltas)
shape_of_tree (gcons (gcons values indices) offsets) = RLE Runs (shape_of_tree values) (shape_of_tree indices) (shape_of_tree offsets)
shape_of_tree (gcons other more) = Plain

-- a shape is that of its tree
pub tree_back : (s : Shape) → shape_of_tree (tree_of s) ≡ s
tree_back Plain = refl
tree_back Primitive = refl
tree_back Constant = refl
tree_back (BitPacked BestWidth) = refl
tree_back (BitPacked BestWidths) = refl
tree_back (BitPacked (Width width)) = refl
tree_back (FoR Natural encoded) = ap (FoR Natural) (tree_back encoded)
tree_back (FoR Signed encoded) = ap (FoR Signed) (tree_back encoded)
tree_back (FoRChunked Natural encoded references) = λ i. FoRChunked Natural (tree_back encoded i) (tree_back references i)
tree_back (FoRChunked Signed encoded references) = λ i. FoRChunked Signed (tree_back encoded i) (tree_back references i)
tree_back (Delta bases deltas) = λ i. Delta (tree_back bases i) (tree_back deltas i)
tree_back (RLE Runs values indices offsets) = λ i. RLE Runs (tree_back values i) (tree_back indices i) (tree_back offsets i)
tree_back (RLE Dictionary values indices offsets) = λ i. RLE Dictionary (tree_back values i) (tree_back indices i) (tree_back offsets i)

-- shapes as number trees
abbrev pub coded_shape : Coded Shape
coded_shape = code_by Gv itself tree_of shape_of_tree tree_back
