-- How many bytes a node takes, and whether it has room.
use Rattle.std.proofs.Common.{◌≡◌, ℕ, suc, min, ◌+◌, ◌-◌, ◌^◌, ◌<◌, ◌≤◌, true, false, ◌&&◌, List, [], ◌∷◌, ◌++◌, length, take, drop, get_or, refl, sym, subst, ap, ◌∙◌, append_assoc, arith, add-one}
use Rattle.std.specs.Prelude.{flat_map}
use Rattle.std.specs.Int.{w64, to_le_bytes}
use Rattle.std.proofs.lemmas.List.{append-nil, drop_more, length-append, take_all}
use Rattle.std.proofs.lemmas.List.Elements.{All-push}
use Rattle.std.proofs.Math.Seq.{take-suc}
use Rattle.fl_serialized.specs.Nodes.{And, NoMore, Node, Nodes, Of, children_of, depth, depth_of, head_of, listed, nodes_of}
use Rattle.fl_serialized.proofs.Listed.{one_smaller}
use Rattle.flcol_container.specs.Container.{head_bytes, length_prefixed, node_bytes, node_count, nodes_bytes}
use Rattle.flcol_container.specs.Room.{AreInMemory, AreShort, IsInMemory, has_room, have_room, level_has_room}

-- ---- counts
pub count_listed : (nodes : Nodes) → length (listed nodes) ≡ node_count nodes
count_listed NoMore = refl
count_listed (And node nodes) = ap suc (count_listed nodes)

-- ---- room, node by node
pub no_level : (d : ℕ) (node : Node) → level_has_room d (head_of node) (children_of node) ≡ false → has_room d node ≡ false
no_level d (Of head children) e = rw e refl

pub all_room : (d : ℕ) (node : Node) → level_has_room d (head_of node) (children_of node) ≡ true → have_room (d - 1) (children_of node) ≡ true → has_room d node ≡ true
all_room d (Of head children) level rest = rw (level, rest) refl

pub one_without : (d : ℕ) (node : Node) → level_has_room d (head_of node) (children_of node) ≡ true → have_room (d - 1) (children_of node) ≡ false → has_room d node ≡ false
one_without d (Of head children) level rest = rw (level, rest) refl

pub next_room : (d : ℕ) (nodes : List Node) (i : ℕ) (child : Node) → i < length nodes → child ≡ get_or nodes i child → have_room d (nodes_of (drop i nodes)) ≡ (has_room d child && have_room d (nodes_of (drop (i + 1) nodes)))
next_room d nodes i child lt is = ap (λ ns. have_room d (nodes_of ns)) (drop_more nodes i child lt) ∙ ap (λ c. has_room d c && have_room d (nodes_of (drop (i + 1) nodes))) (sym is)

-- ---- what is written of a node
-- what is written of a node when these of its children are
unfoldable pub so_far : Node → List Node → List ℕ
so_far node done = head_bytes (head_of node) ++ node_count (children_of node) ∷ nodes_bytes (nodes_of done)

nodes_push : (done : List Node) (child : Node) → nodes_bytes (nodes_of (done ++ child ∷ [])) ≡ nodes_bytes (nodes_of done) ++ length_prefixed w64 (node_bytes child)
unfolding nodes_bytes
nodes_push [] child = append-nil (length_prefixed w64 (node_bytes child))
nodes_push (node ∷ nodes) child = ap (λ (x : List ℕ). length_prefixed w64 (node_bytes node) ++ x) (nodes_push nodes child) ∙ sym (append_assoc (length_prefixed w64 (node_bytes node)) (nodes_bytes (nodes_of nodes)) (length_prefixed w64 (node_bytes child)))

pub so_far_push : (node : Node) (done : List Node) (child : Node) → so_far node (done ++ child ∷ []) ≡ so_far node done ++ length_prefixed w64 (node_bytes child)
unfolding so_far
so_far_push node done child = ap (λ (x : List ℕ). head_bytes (head_of node) ++ node_count (children_of node) ∷ x) (nodes_push done child) ∙ sym (append_assoc (head_bytes (head_of node)) (node_count (children_of node) ∷ nodes_bytes (nodes_of done)) (length_prefixed w64 (node_bytes child)))

pub so_far_next : (node : Node) (nodes : List Node) (i : ℕ) (child : Node) → i < length nodes → child ≡ get_or nodes i child → so_far node (take (i + 1) nodes) ≡ so_far node (take i nodes) ++ length_prefixed w64 (node_bytes child)
so_far_next node nodes i child lt is =
    let more : take (i + 1) nodes ≡ take i nodes ++ child ∷ [] = ap (λ k. take k nodes) (add-one i) ∙ take-suc nodes i child lt ∙ ap (λ x. take i nodes ++ x ∷ []) (sym is) in
    ap (so_far node) more ∙ so_far_push node (take i nodes) child

pub so_far_none : (node : Node) → so_far node [] ≡ head_bytes (head_of node) ++ node_count (children_of node) ∷ []
unfolding so_far nodes_bytes
so_far_none node = refl

pub so_far_all : (node : Node) (nodes : List Node) (i : ℕ) → length nodes ≤ i → nodes_of nodes ≡ children_of node → so_far node (take i nodes) ≡ node_bytes node
unfolding so_far node_bytes
so_far_all (Of head children) nodes i le all = ap (λ xs. head_bytes head ++ node_count children ∷ nodes_bytes (nodes_of xs)) (take_all i nodes le) ∙ ap (λ ns. head_bytes head ++ node_count children ∷ nodes_bytes ns) all

-- ---- sizes
-- the greatest number of the machine's words
abbrev pub max_size : ℕ
max_size = 2 ^ 64 - 1

prefixed_length : (bytes : List ℕ) → length (length_prefixed w64 bytes) ≡ 8 + length bytes
prefixed_length bytes = omega (arith, length-append (to_le_bytes w64 (length bytes)) bytes)

flat_map_push : (f : List ℕ → List ℕ) (xs : List (List ℕ)) (x : List ℕ) → length (flat_map f (xs ++ x ∷ [])) ≡ length (flat_map f xs) + length (f x)
flat_map_push f [] x = omega (arith, length-append (f x) [])
flat_map_push f (y ∷ ys) x = omega (arith, flat_map_push f ys x, length-append (f y) (flat_map f (ys ++ x ∷ [])), length-append (f y) (flat_map f ys))

pub next_size : (buffers : List (List ℕ)) (i : ℕ) (b : List ℕ) (size new : ℕ) → i < length buffers → b ≡ get_or buffers i b → size ≡ min (length (flat_map (length_prefixed w64) (take i buffers))) max_size → new ≡ min (min (size + 8) max_size + length b) max_size
    → new ≡ min (length (flat_map (length_prefixed w64) (take (i + 1) buffers))) max_size
next_size buffers i b size new lt is before e =
    let more : take (i + 1) buffers ≡ take i buffers ++ b ∷ [] = ap (λ k. take k buffers) (add-one i) ∙ take-suc buffers i b lt ∙ ap (λ x. take i buffers ++ x ∷ []) (sym is) in
    let sum : length (flat_map (length_prefixed w64) (take (i + 1) buffers)) ≡ length (flat_map (length_prefixed w64) (take i buffers)) + length (length_prefixed w64 b) = ap (λ bs. length (flat_map (length_prefixed w64) bs)) more ∙ flat_map_push (length_prefixed w64) (take i buffers) b in
    omega (arith, e, before, sum, prefixed_length b)

pub first_size : (node : Node) (size new : ℕ) → size ≡ min (length (head_bytes (head_of node))) max_size → new ≡ min (size + 1) max_size → new ≡ min (length (so_far node [])) max_size
first_size node size new before e =
    let sum : length (so_far node []) ≡ length (head_bytes (head_of node)) + 1 = ap length (so_far_none node) ∙ length-append (head_bytes (head_of node)) (node_count (children_of node) ∷ []) in
    omega (arith, e, before, sum)

pub next_node_size : (node : Node) (nodes : List Node) (i : ℕ) (child : Node) (size held new : ℕ) → i < length nodes → child ≡ get_or nodes i child → size ≡ min (length (so_far node (take i nodes))) max_size → held ≡ min (length (node_bytes child)) max_size
    → new ≡ min (min (size + 8) max_size + held) max_size → new ≡ min (length (so_far node (take (i + 1) nodes))) max_size
next_node_size node nodes i child size held new lt is before one e =
    let sum : length (so_far node (take (i + 1) nodes)) ≡ length (so_far node (take i nodes)) + length (length_prefixed w64 (node_bytes child)) = ap length (so_far_next node nodes i child lt is) ∙ length-append (so_far node (take i nodes)) (length_prefixed w64 (node_bytes child)) in
    omega (arith, e, before, one, sum, prefixed_length (node_bytes child))

pub whole_size : (node : Node) (nodes : List Node) (i size : ℕ) → length nodes ≤ i → nodes_of nodes ≡ children_of node → size ≡ min (length (so_far node (take i nodes))) max_size → size ≡ min (length (node_bytes node)) max_size
whole_size node nodes i size le all e = e ∙ ap (λ (bytes : List ℕ). min (length bytes) max_size) (so_far_all node nodes i le all)

-- ---- memory
in_memory_push : (done : List Node) (child : Node) → AreInMemory (nodes_of done) → IsInMemory child → AreInMemory (nodes_of (done ++ child ∷ []))
in_memory_push [] child all one = (one, tt)
in_memory_push (node ∷ nodes) child all one = (all.0, in_memory_push nodes child all.1 one)

pub next_in_memory : (nodes : List Node) (i : ℕ) (child : Node) → i < length nodes → child ≡ get_or nodes i child → AreInMemory (nodes_of (take i nodes)) → IsInMemory child → AreInMemory (nodes_of (take (i + 1) nodes))
next_in_memory nodes i child lt is before one =
    let more : take (i + 1) nodes ≡ take i nodes ++ child ∷ [] = ap (λ k. take k nodes) (add-one i) ∙ take-suc nodes i child lt ∙ ap (λ x. take i nodes ++ x ∷ []) (sym is) in
    subst (λ ns. AreInMemory (nodes_of ns)) (sym more) (in_memory_push (take i nodes) child before one)

pub all_in_memory : (node : Node) (nodes : List Node) (i : ℕ) → length nodes ≤ i → nodes_of nodes ≡ children_of node → (head_of node).len < 2 ^ 64 → AreShort (head_of node).buffers → AreInMemory (nodes_of (take i nodes)) → IsInMemory node
all_in_memory (Of head children) nodes i le all len short done = (len, short, subst AreInMemory all (subst (λ ns. AreInMemory (nodes_of ns)) (take_all i nodes le) done))

pub next_short : (buffers : List (List ℕ)) (i : ℕ) (b : List ℕ) → i < length buffers → b ≡ get_or buffers i b → AreShort (take i buffers) → length b < 2 ^ 64 → AreShort (take (i + 1) buffers)
next_short buffers i b lt is before short =
    let more : take (i + 1) buffers ≡ take i buffers ++ b ∷ [] = ap (λ k. take k buffers) (add-one i) ∙ take-suc buffers i b lt ∙ ap (λ x. take i buffers ++ x ∷ []) (sym is) in
    subst AreShort (sym more) (All-push (λ buffer. length buffer < 2 ^ 64) (take i buffers) b before short)

-- ---- depth
pub child_smaller : (node : Node) (nodes : List Node) (i : ℕ) (child : Node) → nodes_of nodes ≡ children_of node → i < length nodes → child ≡ get_or nodes i child → depth child < depth node
child_smaller (Of head children) nodes i child all lt is = subst (λ ns. depth child < suc (depth_of ns)) all (subst (λ c. depth c < suc (depth_of (nodes_of nodes))) (sym is) (one_smaller nodes i child lt))
