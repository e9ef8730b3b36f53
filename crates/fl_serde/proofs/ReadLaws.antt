-- Reading the children of a node one after the other.
use Rattle.std.proofs.Common.{◌≡◌, ◌∙◌, ℕ, suc, ◌+◌, ◌<◌, ◌≤◌, Bool, true, false, List, [], ◌∷◌, ◌++◌, append_assoc, length, map, take, drop, get_or, Option, Some, None, Result, Ok, Err, IsErrAnd, refl, sym, ap, arith}
use Rattle.std.specs.Prelude.{◌-◌, ◌==◌, ◌&&◌, slice_get, if◌then◌else◌}
use Rattle.std.specs.List.{remove}
use Rattle.std.proofs.lemmas.Bool.{eqb-true}
use Rattle.std.proofs.lemmas.List.Edits.{get_or-remove_above, length-remove}
use Rattle.std.proofs.Math.Seq.{get_or-append_seam}
use Rattle.std.proofs.lemmas.Option.{slice_get_read}
use Rattle.std.proofs.lemmas.List.{drop_all, drop_more, get_or-map, length-append, length-map, length-take, take-append-drop}
use Rattle.fl_types.specs.declared.dtype.DType.{DType}
use Rattle.fl_types.specs.declared.dtype.PType.{PType}
use Rattle.fl_types.specs.declared.error.FastLanesError.{FastLanesError}
use Rattle.fl_types.specs.declared.error.FastLanesError.TheVariants.{ChildCount, ChildMismatch, OutOfMemory}
use Rattle.fl_types.specs.Refusals.{Answers, Refuses}
use Rattle.fl_types.proofs.RefusalLaws.{Refuses_map}
use Rattle.fl_array.proofs.Refused.{Refuses_same}
use Rattle.fl_metadata.specs.Schemas.{◌>>=◌}
use Rattle.fl_metadata.specs.declared.bit_packed.BitPackedBlockedMetadata.{BitPackedBlockedMetadata}
use Rattle.fl_metadata.specs.declared.bit_packed.BitPackedMetadata.{BitPackedMetadata}
use Rattle.fl_metadata.specs.declared.delta.DeltaMetadata.{DeltaMetadata}
use Rattle.fl_metadata.specs.declared.patches.PatchesMetadata.{PatchesMetadata}
use Rattle.fl_array.specs.Trees.{Tree}
use Rattle.fl_array.specs.Trees as tree
use Rattle.fl_serialized.specs.Nodes.{And, Head, NoMore, Node, Nodes, Of, children_of, head_of, listed}
use Rattle.fl_serde.specs.declared.node_info.NodeInfo.{NodeInfo}
use Rattle.fl_serde.specs.declared.node_info.NodeInfo.TheVariants as infos
use Rattle.fl_serde.specs.declared.children.ExpectedChild.{ExpectedChild}
use Rattle.fl_serde.specs.Checks.{checked}
use Rattle.fl_serde.specs.Children.{back_children, chunk_offset_children, expected_children, has_validity, patch_children, same_dtype, validity_children}
use Rattle.fl_serde.specs.Reading.{Child, beside_validity, chunk_offsets_in, delta_over, fitting, found_children, made, patched_blocks, patches_found, read_children, read_node, reading, validity_over}

-- ---- nodes as their parts
-- a node as a child
abbrev pub child_of : Node → Child
child_of node = record { dtype = (head_of node).dtype; len = (head_of node).len; tree = reading node }

found_is : (nodes : Nodes) → found_children nodes ≡ map child_of (listed nodes)
found_is NoMore = refl
found_is (And node nodes) = ap (λ cs. child_of node ∷ cs) (found_is nodes)

pub reading_is : (node : Node) → reading node ≡ read_node (head_of node) (map child_of (listed (children_of node)))
reading_is (Of head children) = ap (read_node head) (found_is children)

-- a node that is refused before its children are read
pub refused_check : (node : Node) (e : FastLanesError) → checked (head_of node) (length (listed (children_of node))) ≡ Err e → reading node ≡ Err e
refused_check node e h = reading_is node ∙ rw (length-map (listed (children_of node)) child_of, h) refl

-- a node that is not, as its children say
pub after_check : (node : Node) (m : NodeInfo) → checked (head_of node) (length (listed (children_of node))) ≡ Ok m
    → reading node ≡ (read_children (expected_children (head_of node) m (length (listed (children_of node)))) (map child_of (listed (children_of node))) >>= made (head_of node) m)
after_check node m h = reading_is node ∙ rw (length-map (listed (children_of node)) child_of, h) refl

-- ---- children from a place on
-- what reading the children from a place on answers, behind those that have been read
abbrev pub remaining : List ExpectedChild → List Child → ℕ → List Tree → Result (List Tree) FastLanesError
remaining expected children i trees = read_children (drop i expected) (drop i children) >>= λ rest. Ok (trees ++ rest)

none_before : (r : Result (List Tree) FastLanesError) → r ≡ (r >>= λ rest. Ok ([] ++ rest))
none_before (Ok xs) = refl
none_before (Err e) = refl

pub remaining_first : (expected : List ExpectedChild) (children : List Child) → read_children expected children ≡ remaining expected children 0 []
remaining_first expected children = none_before (read_children expected children)

one_before : (trees : List Tree) (tree : Tree) (r : Result (List Tree) FastLanesError) → ((r >>= λ rest. Ok (tree ∷ rest)) >>= λ rest. Ok (trees ++ rest)) ≡ (r >>= λ rest. Ok ((trees ++ tree ∷ []) ++ rest))
one_before trees tree (Ok xs) = ap (λ l. Ok l) (sym (append_assoc trees (tree ∷ []) xs))
one_before trees tree (Err e) = refl

-- the child at a place in front of those behind it
at_place : (expected : List ExpectedChild) (children : List Child) (i : ℕ) (asked : ExpectedChild) (child : Child) (trees : List Tree) → i < length expected → i < length children → asked ≡ get_or expected i asked → child ≡ get_or children i child
    → remaining expected children i trees ≡ ((fitting asked child >>= λ tree. read_children (drop (i + 1) expected) (drop (i + 1) children) >>= λ rest. Ok (tree ∷ rest)) >>= λ rest. Ok (trees ++ rest))
at_place expected children i asked child trees here there is found =
    let front : drop i expected ≡ asked ∷ drop (i + 1) expected = drop_more expected i asked here ∙ ap (λ s. s ∷ drop (i + 1) expected) (sym is) in
    let behind : drop i children ≡ child ∷ drop (i + 1) children = drop_more children i child there ∙ ap (λ c. c ∷ drop (i + 1) children) (sym found) in
    rw (front, behind) refl

-- a child that is read
pub remaining_more : (expected : List ExpectedChild) (children : List Child) (i : ℕ) (asked : ExpectedChild) (child : Child) (trees : List Tree) (tree : Tree) → i < length expected → i < length children → asked ≡ get_or expected i asked → child ≡ get_or children i child
    → fitting asked child ≡ Ok tree → remaining expected children i trees ≡ remaining expected children (i + 1) (trees ++ tree ∷ [])
remaining_more expected children i asked child trees tree here there is found fit =
    at_place expected children i asked child trees here there is found ∙ rw fit (one_before trees tree (read_children (drop (i + 1) expected) (drop (i + 1) children)))

-- a child that is refused
pub remaining_refused : (expected : List ExpectedChild) (children : List Child) (i : ℕ) (asked : ExpectedChild) (child : Child) (trees : List Tree) (e : FastLanesError) → i < length expected → i < length children → asked ≡ get_or expected i asked → child ≡ get_or children i child
    → fitting asked child ≡ Err e → remaining expected children i trees ≡ Err e
remaining_refused expected children i asked child trees e here there is found fit = at_place expected children i asked child trees here there is found ∙ rw fit refl

-- a child too few
pub remaining_short : (expected : List ExpectedChild) (children : List Child) (i : ℕ) (trees : List Tree) → i < length expected → length children ≤ i → remaining expected children i trees ≡ Err ChildCount
remaining_short expected children i trees here short = cases expected here
  where
    cases : (expected : List ExpectedChild) → i < length expected → remaining expected children i trees ≡ Err ChildCount
    cases [] h = absurd (omega (arith, h))
    cases (asked ∷ others) h = rw (drop_more (asked ∷ others) i asked h, drop_all i children short) refl

-- all children
pub remaining_none : (expected : List ExpectedChild) (children : List Child) (i : ℕ) (trees : List Tree) → length expected ≤ i → remaining expected children i trees ≡ Ok trees
remaining_none expected children i trees all = rw (drop_all i expected all) (ap (λ l. Ok l) (behind_none trees))
  where
    behind_none : (xs : List Tree) → xs ++ [] ≡ xs
    behind_none [] = refl
    behind_none (x ∷ xs) = ap (λ l. x ∷ l) (behind_none xs)

-- ---- a whole node
-- what a checked node is read as
pub whole : (node : Node) (m : NodeInfo) (nodes : List Node) (expected : List ExpectedChild) → checked (head_of node) (length (listed (children_of node))) ≡ Ok m → nodes ≡ listed (children_of node)
    → Answers (λ (s : List ExpectedChild). s) (Ok expected) (Ok (expected_children (head_of node) m (length nodes))) → reading node ≡ (read_children expected (map child_of nodes) >>= made (head_of node) m)
whole node m nodes expected h e s =
    let shaped : expected_children (head_of node) m (length nodes) ≡ expected = cc in
    after_check node m h ∙ rw (← e, shaped) refl

-- a child that is as expected
pub fits : (asked : ExpectedChild) (node : Node) (b : Bool) → b ≡ (same_dtype asked.dtype (head_of node).dtype && (asked.len == (head_of node).len)) → b ≡ true → fitting asked (child_of node) ≡ reading node
fits asked node b e holds = rw (sym e ∙ holds) refl

-- a child of another
pub fits_not : (asked : ExpectedChild) (node : Node) (b : Bool) → b ≡ (same_dtype asked.dtype (head_of node).dtype && (asked.len == (head_of node).len)) → b ≡ false → fitting asked (child_of node) ≡ Err ChildMismatch
fits_not asked node b e fails = rw (sym e ∙ fails) refl

-- a node is refused for a child at a place
pub refused_child : (node : Node) (m : NodeInfo) (nodes : List Node) (expected : List ExpectedChild) (i : ℕ) (asked : ExpectedChild) (child : Node) (trees : List Tree) (e : FastLanesError)
    → reading node ≡ (read_children expected (map child_of nodes) >>= made (head_of node) m) → read_children expected (map child_of nodes) ≡ remaining expected (map child_of nodes) i trees
    → i < length expected → i < length nodes → asked ≡ get_or expected i asked → child ≡ get_or nodes i child → fitting asked (child_of child) ≡ Err e → reading node ≡ Err e
refused_child node m nodes expected i asked child trees e all so_far here there is found fit =
    let within : i < length (map child_of nodes) = rw (length-map nodes child_of) there in
    let at : child_of child ≡ get_or (map child_of nodes) i (child_of child) = ap child_of found ∙ sym (get_or-map child_of nodes i child (child_of child) there) in
    all ∙ rw (so_far ∙ remaining_refused expected (map child_of nodes) i asked (child_of child) trees e here within is at fit) refl

-- a node is refused for too few children
pub refused_short : (node : Node) (m : NodeInfo) (nodes : List Node) (expected : List ExpectedChild) (i : ℕ) (trees : List Tree)
    → reading node ≡ (read_children expected (map child_of nodes) >>= made (head_of node) m) → read_children expected (map child_of nodes) ≡ remaining expected (map child_of nodes) i trees
    → i < length expected → length nodes ≤ i → reading node ≡ Err ChildCount
refused_short node m nodes expected i trees all so_far here short =
    let none : length (map child_of nodes) ≤ i = rw (length-map nodes child_of) short in
    all ∙ rw (so_far ∙ remaining_short expected (map child_of nodes) i trees here none) refl

-- a child at a place is read
pub next_child : (nodes : List Node) (expected : List ExpectedChild) (i : ℕ) (asked : ExpectedChild) (child : Node) (trees more : List Tree) (tree : Tree)
    → read_children expected (map child_of nodes) ≡ remaining expected (map child_of nodes) i trees → i < length expected → i < length nodes → asked ≡ get_or expected i asked → child ≡ get_or nodes i child
    → fitting asked (child_of child) ≡ Ok tree → more ≡ trees ++ tree ∷ [] → read_children expected (map child_of nodes) ≡ remaining expected (map child_of nodes) (i + 1) more
next_child nodes expected i asked child trees more tree so_far here there is found fit pushed =
    let within : i < length (map child_of nodes) = rw (length-map nodes child_of) there in
    let at : child_of child ≡ get_or (map child_of nodes) i (child_of child) = ap child_of found ∙ sym (get_or-map child_of nodes i child (child_of child) there) in
    so_far ∙ remaining_more expected (map child_of nodes) i asked (child_of child) trees tree here within is at fit ∙ ap (λ ts. remaining expected (map child_of nodes) (i + 1) ts) (sym pushed)

-- all children are read
pub all_children : (node : Node) (m : NodeInfo) (nodes : List Node) (expected : List ExpectedChild) (i : ℕ) (trees : List Tree)
    → reading node ≡ (read_children expected (map child_of nodes) >>= made (head_of node) m) → read_children expected (map child_of nodes) ≡ remaining expected (map child_of nodes) i trees
    → length expected ≤ i → reading node ≡ made (head_of node) m trees
all_children node m nodes expected i trees all so_far done = all ∙ rw (so_far ∙ remaining_none expected (map child_of nodes) i trees done) refl

-- ---- how many children are read
-- as many arrays are read as children are expected
pub read_count : (expected : List ExpectedChild) (children : List Child) (trees : List Tree) → read_children expected children ≡ Ok trees → length trees ≡ length expected
read_count [] children trees h = let same : [] ≡ trees = cc in rw (← same) refl
read_count (asked ∷ expected) [] trees h = cc
read_count (asked ∷ expected) (child ∷ children) trees h = first (fitting asked child) (λ rest e. read_count expected children rest e) h
  where
    others : (tree : Tree) (r : Result (List Tree) FastLanesError) → ((rest : List Tree) → r ≡ Ok rest → length rest ≡ length expected) → (r >>= λ rest. Ok (tree ∷ rest)) ≡ Ok trees → length trees ≡ length (asked ∷ expected)
    others tree (Ok rest) count k = let same : tree ∷ rest ≡ trees = cc in rw (← same) (ap suc (count rest refl))
    others tree (Err f) count k = cc

    first : (r : Result Tree FastLanesError) → ((rest : List Tree) → read_children expected children ≡ Ok rest → length rest ≡ length expected) → (r >>= λ tree. read_children expected children >>= λ rest. Ok (tree ∷ rest)) ≡ Ok trees → length trees ≡ length (asked ∷ expected)
    first (Ok tree) count k = others tree (read_children expected children) count k
    first (Err f) count k = cc

pub all_read : (nodes : List Node) (expected : List ExpectedChild) (i : ℕ) (trees : List Tree) → read_children expected (map child_of nodes) ≡ remaining expected (map child_of nodes) i trees
    → length expected ≤ i → length trees ≡ length expected
all_read nodes expected i trees so_far done = read_count expected (map child_of nodes) trees (so_far ∙ remaining_none expected (map child_of nodes) i trees done)

-- the boundaries of blocks are one child more than the patches
pub patches_and_boundaries : (head : Head) (ptype : PType) (m : BitPackedBlockedMetadata) (count : ℕ) → length (patch_children head.dtype m.patches) < length (expected_children head (infos.BitPackedBlocked ptype m) count)
patches_and_boundaries head ptype m count =
    let validity = validity_children head (infos.BitPackedBlocked ptype m) count in
    let back = back_children head (infos.BitPackedBlocked ptype m) in
    omega (arith, length-append (patch_children head.dtype m.patches) (validity ++ back), length-append validity back)

-- arrays after those of the patches are not read for them
pub patches_before : (len : ℕ) (dtype : DType) (m : Option PatchesMetadata) (trees others : List Tree) → length (patch_children dtype m) ≤ length trees → patches_found len m (trees ++ others) ≡ patches_found len m trees
patches_before len dtype None trees others h = refl
patches_before len dtype (Some m) [] others h = absurd (omega (arith, h))
patches_before len dtype (Some m) (indices ∷ []) others h = absurd (omega (arith, h))
patches_before len dtype (Some m) (indices ∷ values ∷ trees) others h = rw (of_offsets m.chunk_offsets trees (omega (arith, h))) refl
  where
    of_offsets : (c : Option PType) (trees : List Tree) → length (chunk_offset_children c m.chunk_offsets_len) ≤ length trees → chunk_offsets_in c (trees ++ others) ≡ chunk_offsets_in c trees
    of_offsets None trees k = refl
    of_offsets (Some ptype) [] k = absurd (omega (arith, k))
    of_offsets (Some ptype) (offsets ∷ trees) k = refl

-- nor is one that is taken out behind them
patches_beside : (len : ℕ) (dtype : DType) (m : Option PatchesMetadata) (trees : List Tree) → length (patch_children dtype m) < length trees → patches_found len m (remove trees (length (patch_children dtype m))) ≡ patches_found len m trees
patches_beside len dtype m trees h =
    let n = length (patch_children dtype m) in
    let front = take n trees in
    let long : n ≤ length front = omega (arith, length-take n trees) in
    patches_before len dtype m front (drop (suc n) trees) long ∙ sym (patches_before len dtype m front (drop n trees) long) ∙ ap (patches_found len m) (take-append-drop n trees)

-- what is made of packed blocks whose boundaries are the last child
last_at : (rest : List Tree) (last : Tree) → slice_get (rest ++ last ∷ []) (length (rest ++ last ∷ []) - 1) ≡ Some last
last_at rest last =
    let long : length (rest ++ last ∷ []) ≡ length rest + 1 = length-append rest (last ∷ []) in
    let at : length (rest ++ last ∷ []) - 1 ≡ length rest = omega (arith, long) in
    slice_get_read (rest ++ last ∷ []) (length (rest ++ last ∷ [])) (length (rest ++ last ∷ []) - 1) last refl (omega (arith, long)) (rw at (sym (get_or-append_seam rest last [] last)))

made_last : (head : Head) (ptype : PType) (m : BitPackedBlockedMetadata) (trees rest : List Tree) (last : Tree) → patches_found head.len m.patches trees ≡ patches_found head.len m.patches rest → slice_get trees (length trees - 1) ≡ Some last
    → made head (infos.BitPackedBlocked ptype m) trees ≡ patched_blocks head ptype m (validity_over head (infos.BitPackedBlocked ptype m) trees) rest (Some last)
made_last head ptype m trees rest last patches boundaries = rw (patches, boundaries) refl

-- the validity has been taken out from between the patches and the boundaries, and then the boundaries
pub made_blocked : (head : Head) (ptype : PType) (m : BitPackedBlockedMetadata) (trees rest : List Tree) (boundaries : Tree) → length (patch_children head.dtype m.patches) < length trees → rest ++ boundaries ∷ [] ≡ beside_validity head (infos.BitPackedBlocked ptype m) trees
    → made head (infos.BitPackedBlocked ptype m) trees ≡ patched_blocks head ptype m (validity_over head (infos.BitPackedBlocked ptype m) trees) rest (Some boundaries)
made_blocked head ptype m trees rest boundaries more left = by_count (length trees == length (patch_children head.dtype m.patches) + 1 + 1) refl left
  where
    by_count : (valid : Bool) → (length trees == length (patch_children head.dtype m.patches) + 1 + 1) ≡ valid → rest ++ boundaries ∷ [] ≡ (if valid then remove trees (length (patch_children head.dtype m.patches)) else trees)
        → made head (infos.BitPackedBlocked ptype m) trees ≡ patched_blocks head ptype m (validity_over head (infos.BitPackedBlocked ptype m) trees) rest (Some boundaries)
    by_count true e split =
        let n = length (patch_children head.dtype m.patches) in
        let count = eqb-true _ _ e in
        let long = ap length split ∙ refl in
        let removed = length-remove trees n more in
        let all = length-append rest (boundaries ∷ []) in
        let few : length rest ≡ n = omega arith in
        let patches : patches_found head.len m.patches trees ≡ patches_found head.len m.patches rest = sym (patches_beside head.len head.dtype m.patches trees more) ∙ ap (patches_found head.len m.patches) (sym split) ∙ patches_before head.len head.dtype m.patches rest (boundaries ∷ []) (omega arith) in
        let here : get_or (rest ++ boundaries ∷ []) n boundaries ≡ boundaries = rw (← few) (get_or-append_seam rest boundaries [] boundaries) in
        let there : get_or trees (n + 1) boundaries ≡ boundaries = sym (get_or-remove_above trees n boundaries n (omega arith) more) ∙ ap (λ l. get_or l n boundaries) (sym split) ∙ here in
        let place : length trees - 1 ≡ n + 1 = omega arith in
        made_last head ptype m trees rest boundaries patches (slice_get_read trees (length trees) (length trees - 1) boundaries refl (omega arith) (rw place (sym there)))
    by_count false e split =
        made_last head ptype m trees rest boundaries
        (ap (patches_found head.len m.patches) (sym split) ∙ patches_before head.len head.dtype m.patches rest (boundaries ∷ []) (omega (arith, more, length-append rest (boundaries ∷ []), ap length split)))
        (ap (λ l. slice_get l (length l - 1)) (sym split) ∙ last_at rest boundaries)

-- the boundaries are left
pub some_beside : (head : Head) (ptype : PType) (m : BitPackedBlockedMetadata) (trees : List Tree) → length (patch_children head.dtype m.patches) < length trees → 0 < length (beside_validity head (infos.BitPackedBlocked ptype m) trees)
some_beside head ptype m trees more = by_count (length trees == length (patch_children head.dtype m.patches) + 1 + 1) refl
  where
    by_count : (valid : Bool) → (length trees == length (patch_children head.dtype m.patches) + 1 + 1) ≡ valid → 0 < length (if valid then remove trees (length (patch_children head.dtype m.patches)) else trees)
    by_count true e = let count = eqb-true _ _ e in omega (arith, length-remove trees (length (patch_children head.dtype m.patches)) more)
    by_count false e = omega arith

-- the validity has been taken out behind the patches
pub made_global : (head : Head) (ptype : PType) (m : BitPackedMetadata) (trees : List Tree) → patches_found head.len m.patches (beside_validity head (infos.BitPacked ptype m) trees) ≡ patches_found head.len m.patches trees
made_global head ptype m trees = by_count (length trees == length (patch_children head.dtype m.patches) + 0 + 1) refl
  where
    by_count : (valid : Bool) → (length trees == length (patch_children head.dtype m.patches) + 0 + 1) ≡ valid → patches_found head.len m.patches (if valid then remove trees (length (patch_children head.dtype m.patches)) else trees) ≡ patches_found head.len m.patches trees
    by_count true e = let count = eqb-true _ _ e in patches_beside head.len head.dtype m.patches trees (omega arith)
    by_count false e = refl

-- or behind the bases and the deltas
pub made_delta : (head : Head) (ptype : PType) (m : DeltaMetadata) (parts : tree.DeltaParts) (trees : List Tree) → delta_over parts (beside_validity head (infos.Delta ptype m) trees) ≡ delta_over parts trees
made_delta head ptype m parts trees = by_count (has_validity head (infos.Delta ptype m) (length trees)) trees
  where
    by_count : (valid : Bool) (trees : List Tree) → delta_over parts (if valid then remove trees 2 else trees) ≡ delta_over parts trees
    by_count false trees = refl
    by_count true [] = refl
    by_count true (bases ∷ []) = refl
    by_count true (bases ∷ deltas ∷ others) = refl

-- ---- answers
-- a call answers the refusal that the model has
pub answers_refused : {Y : Type 0} (r : Result Y FastLanesError) (m : Result Y FastLanesError) (e : FastLanesError) → IsErrAnd r (λ f. f ≡ e) → m ≡ Err e → Answers (λ y. y) r m
answers_refused (Ok x) m e h is = absurd h
answers_refused {Y} (Err f) m e h is = rw (is, h) (Refuses_same Y e)

-- memory ran out
pub answers_memory : {Y : Type 0} (r : Result Y FastLanesError) (m : Result Y FastLanesError) → IsErrAnd r (λ f. f ≡ OutOfMemory) → Answers (λ y. y) r m
answers_memory (Ok x) m h = absurd h
answers_memory (Err f) m h = rw h tt

-- a call answers the refusal of another, which the model has where that one's model has it
pub answers_refused_there : {Y Z : Type 0} (r : Result Y FastLanesError) (m : Result Y FastLanesError) (n : Result Z FastLanesError) (e : FastLanesError) → IsErrAnd r (λ f. f ≡ e) → Refuses e n → (n ≡ Err e → m ≡ Err e) → Answers (λ y. y) r m
answers_refused_there (Ok x) m n e h k f = absurd h
answers_refused_there (Err g) m n e h k f = rw h (Refuses_map e n m f k)
