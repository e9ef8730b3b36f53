use Rattle.std.proofs.Common.{◌≡◌, ◌∙◌, ◌+◌, ◌*◌, ◌/◌, ◌<◌, ◌≤◌, ◌++◌, [], ◌∷◌, ℕ, ℤ, List, length, map, ap, mul-le-mul_right, arith}
use Rattle.std.proofs.lemmas.List.{map_push}
use Rattle.fastlanes.specs.Layout.{word_at}
use Rattle.fl_types.specs.Bits.{tabulate}
use Rattle.fl_types.specs.Integers.{bits_of_type, read_as}
use Rattle.fl_types.specs.declared.dtype.PType.{PType}
use Rattle.fl_serde.specs.Leaves.{slot_at, slots_size}
use Rattle.fl_serde.proofs.LeafLaws.{one_more}
use Rattle.fl_serde.proofs.slot_bytes.items_of_bytes.Goals as goal

-- the word of an integer is within the bytes
word_within : (ptype : PType) (width size len i : ℕ) → width ≡ bits_of_type ptype → size ≡ slots_size ptype len → i < len → (i + 1) * (width / 8) ≤ size
word_within ptype width size len i same long here = rw (same, long) (mul-le-mul_right {m = i + 1} {n = len} (bits_of_type ptype / 8) (omega arith))

-- the integer of a word that was read
slot_read : (ptype : PType) (bytes : List ℕ) (width word i : ℕ) (z : ℤ) → width ≡ bits_of_type ptype → word ≡ word_at width bytes i → z ≡ read_as ptype word → z ≡ slot_at ptype bytes i
slot_read ptype bytes width word i z same read is = is ∙ ap (read_as ptype) (read ∙ ap (λ t. word_at t bytes i) same)

-- an item is added whose integer was read
item_more : {X : Type 0} (value : X → ℤ) (ptype : PType) (bytes : List ℕ) (i : ℕ) (old new : List X) (x : X) → new ≡ old ++ x ∷ [] → map value old ≡ tabulate (slot_at ptype bytes) i → value x ≡ slot_at ptype bytes i → map value new ≡ tabulate (slot_at ptype bytes) (i + 1)
item_more value ptype bytes i old new x added before is = one_more (slot_at ptype bytes) i (map value old) (map value new) (value x) (ap (map value) added ∙ map_push value old x) before is

pub word-word-requires : goal.word-word-requires
word-word-requires g c = word_within g.T.NativePType.PTYPE g.T.Physical.FastLanes.T (length c.args.bytes.now) c.args.len c.loop-i.i g.met.T.PhysicalPType.width_law c.requires c.loop-i-test.true

pub loop-i-init : goal.loop-i-init
loop-i-init g c = ap (map g.T.Number.value) c.in_ok-items.ensures.items

pub loop-i-preserved : goal.loop-i-preserved
loop-i-preserved g c =
    let item = slot_read g.T.NativePType.PTYPE c.args.bytes.now g.T.Physical.FastLanes.T _ c.loop-i.i (g.T.Number.value c.from_physical.result) g.met.T.PhysicalPType.width_law c.word-word.ensures c.from_physical.ensures in
    item_more g.T.Number.value g.T.NativePType.PTYPE c.args.bytes.now c.loop-i.i c.loop-i.items.items c.push.new.self.items c.from_physical.result c.in_ok-push.ensures.items c.loop-i.invariant item

pub returns : goal.returns
returns g c =
    let done : c.loop-i.i ≡ c.args.len = omega arith in
    c.loop-i.invariant ∙ ap (tabulate (slot_at g.T.NativePType.PTYPE c.args.bytes.now)) done
