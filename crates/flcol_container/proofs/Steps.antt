-- Reading parts one after the other, as loops do.
use Rattle.std.proofs.Common.{◌≡◌, ℕ, zero, suc, ◌-◌, ◌+◌, ◌≤◌, ◌<◌, Bool, true, false, ◌&&◌, List, [], ◌∷◌, ◌++◌, Option, Some, None, refl, sym, ap, ◌∙◌, arith, append_assoc}
use Rattle.std.specs.Prelude.{option_map, nat_lt}
use Rattle.std.specs.List.{list_all}
use Rattle.std.specs.Str.{IsAscii, IsUtf8}
use Rattle.std.proofs.lemmas.Str.{IsUtf8-from_ascii}
use Rattle.std.proofs.lemmas.Bool.{lt-ltb, ltb-true}
use Rattle.std.specs.Int.{w64}
use Rattle.std.proofs.lemmas.List.{append-nil}
use Rattle.fl_serialized.specs.Nodes.{And, NoMore, Node, Nodes, nodes_of}
use Rattle.flcol_container.specs.declared.error.ContainerError.{ContainerError}
use Rattle.flcol_container.specs.declared.error.ContainerError.TheVariants.{OutOfMemory, BadContainer}
use Rattle.flcol_container.specs.ContainerReading.{◌>>=◌, buffers_at, node_in, nodes_at, prefixed_at}
use Rattle.flcol_container.specs.Outcomes.{FindsNothing}

-- ---- depth
pub one_deeper : (depth : ℕ) (bytes : List ℕ) → 0 < depth → node_in depth bytes ≡ node_in (suc (depth - 1)) bytes
one_deeper depth bytes some = let k : depth ≡ suc (depth - 1) = omega (arith, some) in ap (λ (d : ℕ). node_in d bytes) k

pub none_deep : (depth : ℕ) (bytes : List ℕ) → depth ≡ 0 → node_in depth bytes ≡ None
unfolding node_in
none_deep depth bytes none = rw none refl

-- ---- ASCII
pub and_split : (a b : Bool) → (a && b) ≡ true → (a ≡ true) × (b ≡ true)
and_split true b e = (refl, e)
and_split false b e = absurd cc

below_128 : (b : ℕ) (bs : List ℕ) → list_all (λ b. nat_lt b 128) (b ∷ bs) ≡ true → (b < 128) × (list_all (λ b. nat_lt b 128) bs ≡ true)
below_128 b bs all = let h = and_split (nat_lt b 128) (list_all (λ b. nat_lt b 128) bs) all in (ltb-true _ _ h.0, h.1)

pub ascii_all : (bytes : List ℕ) → list_all (λ b. nat_lt b 128) bytes ≡ true → IsAscii bytes
ascii_all [] all i = omega arith
ascii_all (b ∷ bs) all zero = (below_128 b bs all).0
ascii_all (b ∷ bs) all (suc i) = ascii_all bs (below_128 b bs all).1 i

pub all_ascii : (bytes : List ℕ) → IsAscii bytes → list_all (λ b. nat_lt b 128) bytes ≡ true
all_ascii [] ascii = refl
all_ascii (b ∷ bs) ascii = rw (lt-ltb b 128 (ascii 0), all_ascii bs (λ i. ascii (suc i))) refl

pub utf8_of_ascii : (bytes : List ℕ) → list_all (λ b. nat_lt b 128) bytes ≡ true → IsUtf8 bytes
utf8_of_ascii bytes all = IsUtf8-from_ascii bytes (ascii_all bytes all)

-- ---- buffers
-- the buffers so far, and those that are still read
abbrev pub with_buffers : List (List ℕ) → Option (List (List ℕ) × List ℕ) → Option (List (List ℕ) × List ℕ)
with_buffers front found = option_map (λ x. (front ++ x.0, x.1)) found

regroup_buffers : (front : List (List ℕ)) (b : List ℕ) (found : Option (List (List ℕ) × List ℕ)) → with_buffers front (found >>= λ x. Some (b ∷ x.0, x.1)) ≡ with_buffers (front ++ b ∷ []) found
regroup_buffers front b None = refl
regroup_buffers front b (Some x) = ap (λ bs. Some (bs, x.1)) (sym (append_assoc front (b ∷ []) x.0))

pub next_buffer : (front : List (List ℕ)) (count i : ℕ) (bytes after held : List ℕ) (total : Option (List (List ℕ) × List ℕ)) → i < count → prefixed_at w64 bytes ≡ Some (held, after)
    → with_buffers front (buffers_at (count - i) bytes) ≡ total → with_buffers (front ++ held ∷ []) (buffers_at (count - (i + 1)) after) ≡ total
unfolding buffers_at
next_buffer front count i bytes after held total lt found so_far =
    let k : count - i ≡ suc (count - (i + 1)) = omega (arith, lt) in
    let one : with_buffers front (buffers_at (count - i) bytes) ≡ with_buffers (front ++ held ∷ []) (buffers_at (count - (i + 1)) after) = rw (k, found) (regroup_buffers front held (buffers_at (count - (i + 1)) after)) in
    sym one ∙ so_far

pub no_buffer : (e : ContainerError) (front : List (List ℕ)) (count i : ℕ) (bytes : List ℕ) (total : Option (List (List ℕ) × List ℕ)) → i < count → FindsNothing e (prefixed_at w64 bytes)
    → with_buffers front (buffers_at (count - i) bytes) ≡ total → FindsNothing e total
unfolding buffers_at
no_buffer OutOfMemory front count i bytes total lt h so_far = tt
no_buffer BadContainer front count i bytes total lt h so_far =
    let k : count - i ≡ suc (count - (i + 1)) = omega (arith, lt) in
    let one : with_buffers front (buffers_at (count - i) bytes) ≡ None = rw (k, h) refl in
    sym so_far ∙ one

pub all_buffers : (front : List (List ℕ)) (count i : ℕ) (bytes : List ℕ) (total : Option (List (List ℕ) × List ℕ)) → count ≤ i → with_buffers front (buffers_at (count - i) bytes) ≡ total → total ≡ Some (front, bytes)
unfolding buffers_at
all_buffers front count i bytes total le so_far =
    let k : count - i ≡ 0 = omega (arith, le) in
    let one : with_buffers front (buffers_at (count - i) bytes) ≡ Some (front, bytes) = rw (k, append-nil front) refl in
    sym so_far ∙ one

-- ---- nodes
-- nodes before others
abbrev pub joined : List Node → Nodes → Nodes
joined [] others = others
joined (node ∷ nodes) others = And node (joined nodes others)

joined_push : (front : List Node) (node : Node) (others : Nodes) → joined front (And node others) ≡ joined (front ++ node ∷ []) others
joined_push [] node others = refl
joined_push (n ∷ ns) node others = ap (And n) (joined_push ns node others)

joined_all : (nodes : List Node) → joined nodes NoMore ≡ nodes_of nodes
joined_all [] = refl
joined_all (node ∷ nodes) = ap (And node) (joined_all nodes)

-- the nodes so far, and those that are still read
abbrev pub with_nodes : List Node → Option (Nodes × List ℕ) → Option (Nodes × List ℕ)
with_nodes front found = option_map (λ x. (joined front x.0, x.1)) found

regroup_nodes : (front : List Node) (node : Node) (found : Option (Nodes × List ℕ)) → with_nodes front (found >>= λ x. Some (And node x.0, x.1)) ≡ with_nodes (front ++ node ∷ []) found
regroup_nodes front node None = refl
regroup_nodes front node (Some x) = ap (λ (ns : Nodes). Some (ns, x.1)) (joined_push front node x.0)

pub next_node : (child : List ℕ → Option Node) (front : List Node) (count i : ℕ) (bytes held after : List ℕ) (node : Node) (total : Option (Nodes × List ℕ)) → i < count → prefixed_at w64 bytes ≡ Some (held, after) → child held ≡ Some node
    → with_nodes front (nodes_at child (count - i) bytes) ≡ total → with_nodes (front ++ node ∷ []) (nodes_at child (count - (i + 1)) after) ≡ total
unfolding nodes_at
next_node child front count i bytes held after node total lt found read so_far =
    let k : count - i ≡ suc (count - (i + 1)) = omega (arith, lt) in
    let one : with_nodes front (nodes_at child (count - i) bytes) ≡ with_nodes (front ++ node ∷ []) (nodes_at child (count - (i + 1)) after) = rw (k, found, read) (regroup_nodes front node (nodes_at child (count - (i + 1)) after)) in
    sym one ∙ so_far

pub no_text : (child : List ℕ → Option Node) (e : ContainerError) (front : List Node) (count i : ℕ) (bytes : List ℕ) (total : Option (Nodes × List ℕ)) → i < count → FindsNothing e (prefixed_at w64 bytes)
    → with_nodes front (nodes_at child (count - i) bytes) ≡ total → FindsNothing e total
unfolding nodes_at
no_text child OutOfMemory front count i bytes total lt h so_far = tt
no_text child BadContainer front count i bytes total lt h so_far =
    let k : count - i ≡ suc (count - (i + 1)) = omega (arith, lt) in
    let one : with_nodes front (nodes_at child (count - i) bytes) ≡ None = rw (k, h) refl in
    sym so_far ∙ one

pub no_node : (child : List ℕ → Option Node) (e : ContainerError) (front : List Node) (count i : ℕ) (bytes held after : List ℕ) (total : Option (Nodes × List ℕ)) → i < count → prefixed_at w64 bytes ≡ Some (held, after) → FindsNothing e (child held)
    → with_nodes front (nodes_at child (count - i) bytes) ≡ total → FindsNothing e total
unfolding nodes_at
no_node child OutOfMemory front count i bytes held after total lt found h so_far = tt
no_node child BadContainer front count i bytes held after total lt found h so_far =
    let k : count - i ≡ suc (count - (i + 1)) = omega (arith, lt) in
    let one : with_nodes front (nodes_at child (count - i) bytes) ≡ None = rw (k, found, h) refl in
    sym so_far ∙ one

pub all_nodes : (child : List ℕ → Option Node) (front : List Node) (count i : ℕ) (bytes : List ℕ) (total : Option (Nodes × List ℕ)) → count ≤ i → with_nodes front (nodes_at child (count - i) bytes) ≡ total → total ≡ Some (nodes_of front, bytes)
unfolding nodes_at
all_nodes child front count i bytes total le so_far =
    let k : count - i ≡ 0 = omega (arith, le) in
    let one : with_nodes front (nodes_at child (count - i) bytes) ≡ Some (joined front NoMore, bytes) = rw k refl in
    sym so_far ∙ one ∙ ap (λ (ns : Nodes). Some (ns, bytes)) (joined_all front)
