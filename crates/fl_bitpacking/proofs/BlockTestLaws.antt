-- The tests of blocks, each with the reference of its block.
use Rattle.std.proofs.Common.{◌≡◌, ℕ, ℤ, pos, ◌+◌, ◌+ℤ◌, ◌*◌, ◌/◌, ◌<◌, ◌≤◌, Bool, Bor, List, cond, eqb, get_or, Option, Some, None, option_map, unwrap_or, ap, sym, ◌∙◌, arith}
use Rattle.fl_types.specs.declared.dtype.PType.{PType}
use Rattle.fl_types.specs.Integers.{wrap}
use Rattle.fl_column.specs.Columns.{PrimitiveParts}
use Rattle.fl_patches.specs.PatchMaps.{patched_in}
use Rattle.fl_bitpacking.specs.declared.compute.compare.block_tests.BlockTests.{BlockTests}
use Rattle.fl_bitpacking.specs.declared.compute.range_test.RangeTest.{RangeTest}
use Rattle.fl_bitpacking.specs.Blocks.{Blocks, item_of_blocks}
use Rattle.fl_bitpacking.specs.Columns.{BitPackedParts, block_count, stored}
use Rattle.fl_bitpacking.specs.Compared.{AreBlockTests, answer_at, passes_in}
use Rattle.fl_bitpacking.specs.Decided.{is_decided, undecided_below, undecided_by_block}
use Rattle.fl_bitpacking.specs.RangeTests.{passes}
use Rattle.fl_bitpacking.specs.Readings.{Reading, more_blocks}
use Rattle.fl_bitpacking.specs.References.{AreReferencesOf, of_sums}
use Rattle.fl_bitpacking.specs.declared.references.References.{References}
use Rattle.fl_bitpacking.specs.declared.references.References.TheVariants as added
use Rattle.fl_types.specs.declared.scalar.PValue.{PValue}
use Rattle.fl_types.specs.Values.{integer_of}
use Rattle.fl_bitpacking.proofs.ComparedLaws.{answer_or}
use Rattle.fl_bitpacking.proofs.UndecidedLaws.{decided_alike}

references_of_fewer : (ptype : PType) (n k : ℕ) (references : References) → k ≤ n → AreReferencesOf ptype n references → AreReferencesOf ptype k references
references_of_fewer ptype n k added.None le are = are
references_of_fewer ptype n k (added.Global reference) le are = are
references_of_fewer ptype n k (added.PerBlock references) le are = (are.0, let enough = are.1 in omega arith)

-- the tests of these blocks are those of fewer
pub tests_of_fewer : (n k : ℕ) (t : BlockTests) → k ≤ n → AreBlockTests n t → AreBlockTests k t
tests_of_fewer n k t le are = record {
  test = are.test;
  references = references_of_fewer t.test.ptype n k t.references le are.references;
}

-- the test of block j
pub passes_plain : (t : BlockTests) (j : ℕ) (z : ℤ) → t.references ≡ added.None → passes t.test.range z ≡ passes_in t j z
unfolding passes_in
passes_plain t j z none = ap (λ (o : References). of_sums t.test.ptype o (passes t.test.range) j z) (sym none)

pub passes_the_one : (t : BlockTests) (reference : PValue) (j : ℕ) (z : ℤ) → t.references ≡ added.Global reference → passes t.test.range (wrap t.test.ptype (z +ℤ integer_of reference)) ≡ passes_in t j z
unfolding passes_in
passes_the_one t reference j z one = ap (λ (o : References). of_sums t.test.ptype o (passes t.test.range) j z) (sym one)

pub passes_sum : (t : BlockTests) (references : Bor PrimitiveParts) (j : ℕ) (z r : ℤ) → t.references ≡ added.PerBlock references → r ≡ get_or references.now.slots j (pos 0) → passes t.test.range (wrap t.test.ptype (z +ℤ r)) ≡ passes_in t j z
unfolding passes_in
passes_sum t references j z r each is = ap (λ n. passes t.test.range (wrap t.test.ptype (z +ℤ n))) is ∙ ap (λ (o : References). of_sums t.test.ptype o (passes t.test.range) j z) (sym each)

-- the answer for an integer at a position of block j
pub answered_in : (t : BlockTests) (blocks : Blocks) (bytes : List ℕ) (j q p : ℕ) (bit : Bool) → p ≡ 1024 * j + q → q < 1024 → bit ≡ passes_in t j (item_of_blocks t.test.ptype blocks bytes p) → bit ≡ answer_at t blocks bytes p
unfolding answer_at
answered_in t blocks bytes j q p bit is small read = let block : j ≡ p / 1024 = omega arith in read ∙ ap (λ (n : ℕ). passes_in t n (item_of_blocks t.test.ptype blocks bytes p)) block

-- the tests of a column's blocks
pub tests_are : (t : BlockTests) (ptype : PType) (references : References) (range : RangeTest) → t.test.ptype ≡ ptype → t.test.range ≡ range → t.references ≡ references → passes_in t ≡ of_sums ptype references (passes range)
unfolding passes_in
tests_are t ptype references range typed same are =
    let at : (j : ℕ) (z : ℤ) → passes_in t j z ≡ of_sums ptype references (passes range) j z =
    λ j z. ap (λ p. of_sums p t.references (passes t.test.range) j z) typed ∙ (ap (λ (o : References). of_sums ptype o (passes t.test.range) j z) are ∙ ap (λ r. of_sums ptype references (passes r) j z) same) in
    λ i j z. at j z i

-- the answer for an item of a column, which may be patched
pub item_answered : (t : BlockTests) (test : ℕ → ℤ → Bool) (parts : BitPackedParts) (blocks : Blocks) (before bit : Bool) (i : ℕ) → t.test.ptype ≡ parts.ptype → passes_in t ≡ test
    → bit ≡ unwrap_or (option_map (passes_in t ((parts.offset + i) / 1024)) (patched_in parts.patches i)) before → before ≡ answer_at t blocks parts.packed (parts.offset + i)
    → bit ≡ test ((parts.offset + i) / 1024) (unwrap_or (patched_in parts.patches i) (stored parts blocks i))
unfolding answer_at
item_answered t test parts blocks before bit i typed same is read =
    let j = (parts.offset + i) / 1024 in
    let patch = patched_in parts.patches i in
    is ∙ (ap (unwrap_or (option_map (passes_in t j) patch)) (read ∙ ap (λ p. passes_in t j (item_of_blocks p blocks parts.packed (parts.offset + i))) typed)
    ∙ (answer_or (passes_in t j) patch (stored parts blocks i) ∙ ap (λ (f : ℕ → ℤ → Bool). f j (unwrap_or patch (stored parts blocks i))) same))

-- whether a block is counted, by tests that answer alike
pub counted_by : (new old : Reading) (width w : ℕ) (p q : PType) (f g : ℤ → Bool) → p ≡ q → ((z : ℤ) → f z ≡ g z) → width ≡ w
    → new ≡ more_blocks (cond (is_decided p width f) 0 1) old → new ≡ more_blocks (cond (is_decided q w g) 0 1) old
counted_by new old width w p q f g typed same wide is =
    is ∙ (ap (λ t. more_blocks (cond (is_decided t width f) 0 1) old) typed ∙ (ap (λ b. more_blocks (cond b 0 1) old) (decided_alike q width f g same)
    ∙ ap (λ (k : ℕ). more_blocks (cond (is_decided q k g) 0 1) old) wide))

-- how many blocks of a column the tests leave undecided
pub undecided_is : (t : BlockTests) (test : ℕ → ℤ → Bool) (parts : BitPackedParts) (blocks : Blocks) → t.test.ptype ≡ parts.ptype → passes_in t ≡ test
    → cond (eqb parts.len 0) 0 (undecided_below t.test.ptype blocks (passes_in t) (block_count parts)) ≡ undecided_by_block parts blocks test
undecided_is t test parts blocks typed same =
    ap (λ p. cond (eqb parts.len 0) 0 (undecided_below p blocks (passes_in t) (block_count parts))) typed ∙ ap (λ (f : ℕ → ℤ → Bool). undecided_by_block parts blocks f) same
