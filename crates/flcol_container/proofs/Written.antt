-- What is written is a node's container.
use Rattle.std.proofs.Common.{◌≡◌, ℕ, zero, suc, min, ◌+◌, ◌-◌, ◌^◌, ◌<◌, ◌≤◌, true, false, ◌&&◌, List, [], ◌∷◌, ◌++◌, length, take, drop, get_or, refl, sym, subst, ap, ◌∙◌, append_assoc, arith, add-one}
use Rattle.std.specs.Prelude.{flat_map, codes, nat_lt}
use Rattle.std.specs.List.{list_all}
use Rattle.std.specs.Int.{w64, to_le_bytes}
use Rattle.std.proofs.lemmas.Bool.{lt-ltb, ltb-true}
use Rattle.std.proofs.lemmas.Grind.{flat_map-append}
use Rattle.std.proofs.lemmas.List.{append-nil, length-append}
use Rattle.std.proofs.Math.Seq.{drop-append_seam, take-append_seam, take-suc}
use Rattle.fl_serialized.specs.Nodes.{And, Head, NoMore, Node, Nodes, Of, children_of, depth, depth_of, head_of, nodes_of}
use Rattle.flcol_container.specs.Container.{HasNoContainer, HeadFits, IsContainer, NodeFits, NodesFit, container_bytes, head_bytes, length_prefixed, node_bytes, node_count, nodes_bytes}
use Rattle.flcol_container.specs.Room.{AreInMemory, AreShort, IsInMemory, has_room, have_room, head_has_room, level_has_room}
use Rattle.flcol_container.proofs.Sizes.{so_far, so_far_all, so_far_next, so_far_none}
use Rattle.flcol_container.proofs.Steps.{all_ascii, and_split, ascii_all}

-- ---- a node that has room fits
head_fits : (head : Head) → head_has_room head ≡ true → head.len < 2 ^ 64 → AreShort head.buffers → HeadFits head
head_fits head room len short =
    let id = nat_lt (length head.id) (2 ^ 8) in
    let ascii = list_all (λ b. nat_lt b 128) head.id in
    let metadata = nat_lt (length head.metadata) (2 ^ 32) in
    let a = and_split (id && ascii && metadata) (nat_lt (length head.buffers) (2 ^ 8)) room in
    let b = and_split (id && ascii) metadata a.0 in
    let c = and_split id ascii b.0 in
    record { id = ltb-true (length head.id) (2 ^ 8) c.0; ascii = ascii_all head.id c.1; len = len; metadata = ltb-true (length head.metadata) (2 ^ 32) b.1; buffer_count = ltb-true (length head.buffers) (2 ^ 8) a.1; buffers = short }

level_fits : (d : ℕ) (head : Head) (children : Nodes) → level_has_room d head children ≡ true → (0 < d) × (head_has_room head ≡ true) × (node_count children < 2 ^ 8)
level_fits d head children room =
    let a = and_split (nat_lt 0 d && head_has_room head) (nat_lt (node_count children) (2 ^ 8)) room in
    let b = and_split (nat_lt 0 d) (head_has_room head) a.0 in
    (ltb-true 0 d b.0, b.1, ltb-true (node_count children) (2 ^ 8) a.1)

mutual
  unfolding node_bytes

  pub node_fits : (node : Node) (d : ℕ) → has_room d node ≡ true → IsInMemory node → length (node_bytes node) < 2 ^ 64 → NodeFits node × (depth node ≤ d)
  node_fits (Of head children) d room memory short =
      let a = and_split (level_has_room d head children) (have_room (d - 1) children) room in
      let level = level_fits d head children a.0 in
      let rest : length (nodes_bytes children) < 2 ^ 64 = omega (arith, short, length-append (head_bytes head) (node_count children ∷ nodes_bytes children)) in
      let all = nodes_fit children (d - 1) a.1 memory.2 rest in
      ((head_fits head level.1 memory.0 memory.1, level.2, all.0), omega (arith, all.1, level.0))

  pub nodes_fit : (nodes : Nodes) (d : ℕ) → have_room d nodes ≡ true → AreInMemory nodes → length (nodes_bytes nodes) < 2 ^ 64 → NodesFit nodes × (depth_of nodes ≤ d)
  nodes_fit NoMore d room memory short = (tt, omega arith)
  nodes_fit (And node nodes) d room memory short =
      let a = and_split (has_room d node) (have_room d nodes) room in
      let sum = length-append (length_prefixed w64 (node_bytes node)) (nodes_bytes nodes) in
      let sum' = length-append (to_le_bytes w64 (length (node_bytes node))) (node_bytes node) in
      let one_short : length (node_bytes node) < 2 ^ 64 = omega (arith, short, sum, sum') in
      let one = node_fits node d a.0 memory.0 one_short in
      let others = nodes_fit nodes d a.1 memory.1 (omega (arith, short, sum)) in
      ((one.0, one_short, others.0), omega (arith, one.1, others.1))

-- ---- a node that fits has room
head_room : (head : Head) → HeadFits head → head_has_room head ≡ true
head_room head fits = rw (lt-ltb _ _ fits.id, all_ascii head.id fits.ascii, lt-ltb _ _ fits.metadata, lt-ltb _ _ fits.buffer_count) refl

mutual
  pub node_room : (node : Node) (d : ℕ) → NodeFits node → depth node ≤ d → has_room d node ≡ true
  node_room (Of head children) d fits le =
      let some : 0 < d = omega (arith, le) in
      let fewer : depth_of children ≤ d - 1 = omega (arith, le) in
      rw (lt-ltb _ _ some, head_room head fits.0, lt-ltb _ _ fits.1, nodes_room children (d - 1) fits.2 fewer) refl

  pub nodes_room : (nodes : Nodes) (d : ℕ) → NodesFit nodes → depth_of nodes ≤ d → have_room d nodes ≡ true
  nodes_room NoMore d fits le = refl
  nodes_room (And node nodes) d fits le =
      rw (node_room node d fits.0 (omega (arith, le)), nodes_room nodes d fits.2 (omega (arith, le))) refl

-- ---- step by step
pub next_bytes : (buffers : List (List ℕ)) (i : ℕ) (b : List ℕ) (len : ℕ) (old out middle new : List ℕ) → i < length buffers → b ≡ get_or buffers i b → len ≡ length b → out ≡ old ++ flat_map (length_prefixed w64) (take i buffers) → middle ≡ out ++ to_le_bytes w64 len → new ≡ middle ++ b
    → new ≡ old ++ flat_map (length_prefixed w64) (take (i + 1) buffers)
next_bytes buffers i b len old out middle new lt is size before e e' =
    let more : take (i + 1) buffers ≡ take i buffers ++ b ∷ [] = ap (λ k. take k buffers) (add-one i) ∙ take-suc buffers i b lt ∙ ap (λ x. take i buffers ++ x ∷ []) (sym is) in
    let parts : flat_map (length_prefixed w64) (take (i + 1) buffers) ≡ flat_map (length_prefixed w64) (take i buffers) ++ length_prefixed w64 b = ap (flat_map (length_prefixed w64)) more ∙ flat_map-append (length_prefixed w64) (take i buffers) (b ∷ []) ∙ ap (λ x. flat_map (length_prefixed w64) (take i buffers) ++ x) (append-nil (length_prefixed w64 b)) in
    let joined : new ≡ old ++ (flat_map (length_prefixed w64) (take i buffers) ++ length_prefixed w64 b) =
    e' ∙ ap (λ x. x ++ b) e ∙ ap (λ x. (x ++ to_le_bytes w64 len) ++ b) before ∙ ap (λ k. ((old ++ flat_map (length_prefixed w64) (take i buffers)) ++ to_le_bytes w64 k) ++ b) size ∙ regroup old (flat_map (length_prefixed w64) (take i buffers)) (to_le_bytes w64 (length b)) b in
    joined ∙ ap (λ x. old ++ x) (sym parts)
  where
    regroup : (a b c d : List ℕ) → ((a ++ b) ++ c) ++ d ≡ a ++ (b ++ (c ++ d))
    regroup a b c d = simp append_assoc

abbrev pub ChildFits : Node → Type 0
ChildFits child = NodeFits child × (length (node_bytes child) < 2 ^ 64)

one_fits : (nodes : List Node) (i : ℕ) (d : Node) → NodesFit (nodes_of nodes) → i < length nodes → ChildFits (get_or nodes i d)
one_fits [] i d fits lt = absurd (omega (arith, lt))
one_fits (node ∷ nodes) zero d fits lt = (fits.0, fits.1)
one_fits (node ∷ nodes) (suc i) d fits lt = one_fits nodes i d fits.2 (omega (arith, lt))

children_fit : (node : Node) → NodeFits node → NodesFit (children_of node)
children_fit (Of head children) fits = fits.2

pub head_of_fits : (node : Node) → NodeFits node → HeadFits (head_of node)
head_of_fits (Of head children) fits = fits.0

pub count_fits : (node : Node) → NodeFits node → node_count (children_of node) < 2 ^ 8
count_fits (Of head children) fits = fits.1

pub child_fits : (node : Node) (nodes : List Node) (i : ℕ) (child : Node) → nodes_of nodes ≡ children_of node → NodeFits node → i < length nodes → child ≡ get_or nodes i child → ChildFits child
child_fits node nodes i child all fits lt is = subst ChildFits (sym is) (one_fits nodes i child (subst NodesFit (sym all) (children_fit node fits)) lt)

pub begun : (node : Node) (old out new : List ℕ) (count : ℕ) → out ≡ old ++ head_bytes (head_of node) → count ≡ node_count (children_of node) → new ≡ out ++ count ∷ [] → new ≡ old ++ so_far node []
begun node old out new count before is e =
    e ∙ ap (λ x. x ++ count ∷ []) before ∙ ap (λ k. (old ++ head_bytes (head_of node)) ++ k ∷ []) is ∙ append_assoc old (head_bytes (head_of node)) (node_count (children_of node) ∷ []) ∙ ap (λ x. old ++ x) (sym (so_far_none node))

-- what was added behind an index, with its length written over the eight bytes there
put_back : (out zeros bytes full new : List ℕ) (at : ℕ) → at ≡ length out → length zeros ≡ 8 → full ≡ (out ++ zeros) ++ bytes → new ≡ take at full ++ (to_le_bytes w64 (length full - (at + 8)) ++ drop (at + 8) full) → new ≡ out ++ length_prefixed w64 bytes
put_back out zeros bytes full new at here eight whole e =
    let front : take at full ≡ out = ap (λ k. take k full) here ∙ ap (take (length out)) (whole ∙ append_assoc out zeros bytes) ∙ take-append_seam out (zeros ++ bytes) in
    let seam : at + 8 ≡ length (out ++ zeros) = omega (arith, here, eight, length-append out zeros) in
    let behind : drop (at + 8) full ≡ bytes = ap (λ k. drop k full) seam ∙ ap (drop (length (out ++ zeros))) whole ∙ drop-append_seam (out ++ zeros) bytes in
    let size : length full - (at + 8) ≡ length bytes = omega (arith, seam, ap length whole, length-append (out ++ zeros) bytes) in
    e ∙ ap (λ x. x ++ (to_le_bytes w64 (length full - (at + 8)) ++ drop (at + 8) full)) front ∙ ap (λ k. out ++ (to_le_bytes w64 k ++ drop (at + 8) full)) size ∙ ap (λ x. out ++ (to_le_bytes w64 (length bytes) ++ x)) behind

pub next_written : (node : Node) (nodes : List Node) (i : ℕ) (child : Node) (at : ℕ) (old out middle full new : List ℕ) → i < length nodes → child ≡ get_or nodes i child → at ≡ length out
    → out ≡ old ++ so_far node (take i nodes) → middle ≡ out ++ to_le_bytes w64 0 → full ≡ middle ++ node_bytes child → new ≡ take at full ++ (to_le_bytes w64 (length full - (at + 8)) ++ drop (at + 8) full)
    → new ≡ old ++ so_far node (take (i + 1) nodes)
next_written node nodes i child at old out middle full new lt is here before e e' e'' =
    put_back out (to_le_bytes w64 0) (node_bytes child) full new at here refl (e' ∙ ap (λ x. x ++ node_bytes child) e) e''
    ∙ ap (λ x. x ++ length_prefixed w64 (node_bytes child)) before ∙ append_assoc old (so_far node (take i nodes)) (length_prefixed w64 (node_bytes child)) ∙ ap (λ x. old ++ x) (sym (so_far_next node nodes i child lt is))

pub all_written : (node : Node) (nodes : List Node) (i : ℕ) (old out : List ℕ) → length nodes ≤ i → nodes_of nodes ≡ children_of node → out ≡ old ++ so_far node (take i nodes) → out ≡ old ++ node_bytes node
all_written node nodes i old out le all e = e ∙ ap (λ x. old ++ x) (so_far_all node nodes i le all)

-- ---- containers
pub no_container : (node : Node) → false ≡ has_room 16 node → HasNoContainer node
no_container node none bytes is = let some = node_room node 16 is.fits is.shallow in absurd (clash (none ∙ some))
  where
    clash : false ≡ true → ⊥
    clash e = absurd cc

-- a container's bytes are those of its node, and four
container_size : (node : Node) (bytes : List ℕ) → bytes ≡ container_bytes node → length bytes ≡ length (node_bytes node) + 4
container_size node bytes text = ap length text ∙ (length-append (codes "FLC1") (node_bytes node) ∙ omega arith)

-- a node that takes so many bytes has a container of four more
pub measured : (node : Node) (size : ℕ) → true ≡ has_room 16 node → IsInMemory node → size ≡ min (length (node_bytes node)) (2 ^ 64 - 1) → size < 2 ^ 63 - 1 → (bytes : List ℕ) × IsContainer bytes node × (length bytes ≡ size + 4)
measured node size room memory sized small =
    let same : size ≡ length (node_bytes node) = omega (arith, sized, small) in
    let fits = node_fits node 16 (sym room) memory (omega (arith, same, small)) in
    (container_bytes node, record { text = refl; shallow = fits.1; fits = fits.0 }, container_size node (container_bytes node) refl ∙ ap (λ n. n + 4) (sym same))

pub too_large : (node : Node) (size : ℕ) (bytes : List ℕ) → size ≡ min (length (node_bytes node)) (2 ^ 64 - 1) → 2 ^ 63 - 1 ≤ size → IsContainer bytes node → 2 ^ 63 ≤ length bytes
too_large node size bytes sized large is =
    let all = container_size node bytes is.text in
    omega (arith, sized, large, all)

-- what is written behind the beginning is the container of a node that has one
pub is_container : (node : Node) (empty begun bytes : List ℕ) → {len : ℕ} → (other : List ℕ) × IsContainer other node × (length other ≡ len) → empty ≡ [] → begun ≡ empty ++ codes "FLC1" → bytes ≡ begun ++ node_bytes node → IsContainer bytes node
is_container node empty begun bytes some none front whole =
    record { text = whole ∙ ap (λ x. x ++ node_bytes node) (front ∙ ap (λ x. x ++ codes "FLC1") none); shallow = some.1.shallow; fits = some.1.fits }
