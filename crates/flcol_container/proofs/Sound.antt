-- What is read of bytes is the node whose container they are.
use Rattle.std.proofs.Common.{◌≡◌, ℕ, zero, suc, ◌+◌, ◌^◌, ◌<◌, ◌≤◌, Bool, true, false, cond, eqb, ltb, List, [], ◌∷◌, ◌++◌, length, get_or, take, drop, Option, Some, None, refl, sym, ap, subst, ◌∙◌, append_assoc, arith, inl, inr}
use Rattle.std.specs.Prelude.{nat_eq, flat_map, codes, bytes_eq, Result, Ok, Err, IfOk}
use Rattle.std.specs.Option.{option_map_or}
use Rattle.std.specs.List.{All, list_all}
use Rattle.std.specs.Int.{w32, w64, to_le_bytes, from_le_bytes}
use Rattle.std.proofs.lemmas.Bool.{cases_lt, ltb-false, eqb-true}
use Rattle.std.proofs.lemmas.List.{take-append-drop, length-take, get_or-drop, get_or-take, get_or_past, append-nil, nil_from_length}
use Rattle.std.proofs.lemmas.List.Elements.{All-cons, All-nil}
use Rattle.std.proofs.lemmas.Slice.Eq.{bytes_eq-Decides}
use Rattle.std.proofs.lemmas.Nat.{le_bytes_4, le_bytes_8}
use Rattle.fl_types.specs.declared.dtype.DType.{DType}
use Rattle.fl_metadata.specs.WrittenText.{AreBytes}
use Rattle.fl_serialized.specs.Nodes.{And, Head, NoMore, Node, Nodes, Of, depth, depth_of}
use Rattle.flcol_container.specs.Container.{HeadFits, IsContainer, NodeFits, NodesFit, dtype_byte, head_bytes, length_prefixed, node_count, node_bytes, nodes_bytes}
use Rattle.flcol_container.specs.ContainerReading.{◌>>=◌, ContainerIsRead, buffers_at, byte_at, container_of, dtype_at, dtype_of_byte, front_at, head_at, id_at, node_in, nodes_at, number_at, prefixed_at}
use Rattle.flcol_container.specs.declared.error.ContainerError.{ContainerError}
use Rattle.flcol_container.specs.declared.error.ContainerError.TheVariants.{BadContainer, OutOfMemory}
use Rattle.flcol_container.specs.Outcomes.{Finds, IsReading}
use Rattle.flcol_container.proofs.Again.{container_again, one_node_at_most}
use Rattle.flcol_container.proofs.Steps.{ascii_all}

-- ---- bytes
abbrev pub IsBytes : List ℕ → Type 0
IsBytes bytes = (i : ℕ) → get_or bytes i 0 < 256

bytes_drop : (n : ℕ) (bytes : List ℕ) → IsBytes bytes → IsBytes (drop n bytes)
bytes_drop n bytes h i = rw get_or-drop (h (n + i))

bytes_take : (n : ℕ) (bytes : List ℕ) → IsBytes bytes → IsBytes (take n bytes)
bytes_take n bytes h i =
    elim (cases_lt i n) [
      | inl lt ↦ rw (get_or-take n bytes i 0 lt) (h i)
      | inr le ↦ rw (get_or_past (take n bytes) i 0 (omega (arith, length-take n bytes))) (omega arith)
    ]

pub are_bytes : (bytes : List ℕ) → AreBytes bytes → IsBytes bytes
are_bytes bytes h i =
    elim (cases_lt i (length bytes)) [
      | inl lt ↦ h i 0 lt
      | inr le ↦ rw (get_or_past bytes i 0 le) (omega arith)
    ]

-- ---- steps that found something
bind_some : {A B : Type 0} (o : Option A) (f : A → Option B) (y : B) → (o >>= f) ≡ Some y → (x : A) × (o ≡ Some x) × (f x ≡ Some y)
bind_some None f y e = absurd cc
bind_some (Some x) f y e = (x, refl, e)

some_is : {A : Type 0} (x y : A) (o : Option A) → o ≡ Some x → o ≡ Some y → x ≡ y
some_is x y o p q = cc

as_found : {A : Type 0} (P : A → Type 0) (made x : A) → Some made ≡ Some x → P made → P x
as_found P made x e p = subst P (some_is made x (Some made) refl e) p

refused : {A : Type 0} (b : Bool) (o : Option A) (y : A) → cond b None o ≡ Some y → (b ≡ false) × (o ≡ Some y)
refused true o y e = absurd cc
refused false o y e = (refl, e)

allowed : {A : Type 0} (b : Bool) (o : Option A) (y : A) → cond b o None ≡ Some y → (b ≡ true) × (o ≡ Some y)
allowed true o y e = (refl, e)
allowed false o y e = absurd cc

-- ---- what a step takes
record Takes (bytes text rest : List ℕ) : Type 0 where
  parts : bytes ≡ text ++ rest
  rest_fits : IsBytes rest

then_takes : (a x b y c : List ℕ) → Takes a x b → Takes b y c → Takes a (x ++ y) c
then_takes a x b y c p q = record { parts = p.parts ∙ ap (λ (t : List ℕ). x ++ t) q.parts ∙ sym (append_assoc x y c); rest_fits = q.rest_fits }

abbrev Fronted : ℕ → List ℕ → List ℕ × List ℕ → Type 0
Fronted n bytes x = Takes bytes x.0 x.1 × IsBytes x.0 × (length x.0 ≡ n)

front_takes : (n : ℕ) (bytes : List ℕ) (x : List ℕ × List ℕ) → IsBytes bytes → front_at n bytes ≡ Some x → Fronted n bytes x
front_takes n bytes x fits e =
    let g = refused (ltb (length bytes) n) (Some (take n bytes, drop n bytes)) x e in
    let long : n ≤ length bytes = ltb-false _ _ g.0 in
    let made : Fronted n bytes (take n bytes, drop n bytes) = (record { parts = sym (take-append-drop n bytes); rest_fits = bytes_drop n bytes fits }, bytes_take n bytes fits, omega (arith, length-take n bytes)) in
    as_found (Fronted n bytes) (take n bytes, drop n bytes) x g.1 made

abbrev Numbered_64 : List ℕ → ℕ × List ℕ → Type 0
Numbered_64 bytes x = Takes bytes (to_le_bytes w64 x.0) x.1 × (x.0 < 2 ^ 64)

number_takes_64 : (bytes : List ℕ) (x : ℕ × List ℕ) → IsBytes bytes → number_at w64 bytes ≡ Some x → Numbered_64 bytes x
number_takes_64 bytes x fits e =
    let f = bind_some (front_at 8 bytes) (λ y. Some (from_le_bytes w64 y.0, y.1)) x e in
    let t = front_takes 8 bytes f.0 fits f.1 in
    let n : ℕ = from_le_bytes w64 f.0.0 in
    let front = t.1 in
    let back : to_le_bytes w64 n ≡ f.0.0 = le_bytes_8 f.0.0 n t.2 front refl in
    let below : n < 2 ^ 64 = omega (arith, front 0, front 1, front 2, front 3, front 4, front 5, front 6, front 7) in
    let made : Numbered_64 bytes (n, f.0.1) = (record { parts = t.0.parts ∙ ap (λ (s : List ℕ). s ++ f.0.1) (sym back); rest_fits = t.0.rest_fits }, below) in
    as_found (Numbered_64 bytes) (n, f.0.1) x f.2 made

abbrev Numbered_32 : List ℕ → ℕ × List ℕ → Type 0
Numbered_32 bytes x = Takes bytes (to_le_bytes w32 x.0) x.1 × (x.0 < 2 ^ 32)

number_takes_32 : (bytes : List ℕ) (x : ℕ × List ℕ) → IsBytes bytes → number_at w32 bytes ≡ Some x → Numbered_32 bytes x
number_takes_32 bytes x fits e =
    let f = bind_some (front_at 4 bytes) (λ y. Some (from_le_bytes w32 y.0, y.1)) x e in
    let t = front_takes 4 bytes f.0 fits f.1 in
    let n : ℕ = from_le_bytes w32 f.0.0 in
    let front = t.1 in
    let back : to_le_bytes w32 n ≡ f.0.0 = le_bytes_4 f.0.0 n t.2 front refl in
    let below : n < 2 ^ 32 = omega (arith, front 0, front 1, front 2, front 3) in
    let made : Numbered_32 bytes (n, f.0.1) = (record { parts = t.0.parts ∙ ap (λ (s : List ℕ). s ++ f.0.1) (sym back); rest_fits = t.0.rest_fits }, below) in
    as_found (Numbered_32 bytes) (n, f.0.1) x f.2 made

abbrev Texted_64 : List ℕ → List ℕ × List ℕ → Type 0
Texted_64 bytes x = Takes bytes (length_prefixed w64 x.0) x.1 × IsBytes x.0 × (length x.0 < 2 ^ 64)

prefixed_takes_64 : (bytes : List ℕ) (x : List ℕ × List ℕ) → IsBytes bytes → prefixed_at w64 bytes ≡ Some x → Texted_64 bytes x
prefixed_takes_64 bytes x fits e =
    let n = bind_some (number_at w64 bytes) (λ n. front_at n.0 n.1) x e in
    let t0 = number_takes_64 bytes n.0 fits n.1 in
    let t1 = front_takes n.0.0 n.0.1 x t0.0.rest_fits n.2 in
    let all = then_takes bytes (to_le_bytes w64 n.0.0) n.0.1 x.0 x.1 t0.0 t1.0 in
    (subst (λ (k : ℕ). Takes bytes (to_le_bytes w64 k ++ x.0) x.1) (sym t1.2) all, t1.1, omega (arith, t1.2, t0.1))

abbrev Texted_32 : List ℕ → List ℕ × List ℕ → Type 0
Texted_32 bytes x = Takes bytes (length_prefixed w32 x.0) x.1 × (length x.0 < 2 ^ 32)

prefixed_takes_32 : (bytes : List ℕ) (x : List ℕ × List ℕ) → IsBytes bytes → prefixed_at w32 bytes ≡ Some x → Texted_32 bytes x
prefixed_takes_32 bytes x fits e =
    let n = bind_some (number_at w32 bytes) (λ n. front_at n.0 n.1) x e in
    let t0 = number_takes_32 bytes n.0 fits n.1 in
    let t1 = front_takes n.0.0 n.0.1 x t0.0.rest_fits n.2 in
    let all = then_takes bytes (to_le_bytes w32 n.0.0) n.0.1 x.0 x.1 t0.0 t1.0 in
    (subst (λ (k : ℕ). Takes bytes (to_le_bytes w32 k ++ x.0) x.1) (sym t1.2) all, omega (arith, t1.2, t0.1))

abbrev Byted : List ℕ → ℕ × List ℕ → Type 0
Byted bytes x = Takes bytes (x.0 ∷ []) x.1 × (x.0 < 256)

byte_takes : (bytes : List ℕ) (x : ℕ × List ℕ) → IsBytes bytes → byte_at bytes ≡ Some x → Byted bytes x
byte_takes [] x fits e = absurd cc
byte_takes (b ∷ bs) x fits e = as_found (Byted (b ∷ bs)) (b, bs) x e (record { parts = refl; rest_fits = λ i. fits (suc i) }, fits 0)

-- ---- heads
-- a test holds for all numbers below this one
abbrev all_below : ℕ → (ℕ → Bool) → Bool
all_below zero test = true
all_below (suc n) test = cond (test n) (all_below n test) false

below_true : (n : ℕ) (test : ℕ → Bool) (b : ℕ) → all_below n test ≡ true → b < n → test b ≡ true
below_true zero test b all lt = absurd (omega (arith, lt))
below_true (suc n) test b all lt =
    let h = split (test n) (all_below n test) all in
    elim (cases_lt b n) [
      | inl less ↦ below_true n test b h.1 less
      | inr not_less ↦ let same : b ≡ n = omega (arith, lt, not_less) in ap test same ∙ h.0
    ]
  where
    split : (a b : Bool) → cond a b false ≡ true → (a ≡ true) × (b ≡ true)
    split true b e = (refl, e)
    split false b e = absurd cc

-- each byte of a type stands for the type that has it
abbrev byte_back : ℕ → Bool
byte_back b = option_map_or (λ dtype. nat_eq (dtype_byte dtype) b) (dtype_of_byte b) true

bytes_back : all_below 256 byte_back ≡ true
bytes_back = refl

dtype_back : (b : ℕ) (dtype : DType) → b < 256 → dtype_of_byte b ≡ Some dtype → dtype_byte dtype ≡ b
dtype_back b dtype lt e =
    let back : byte_back b ≡ true = below_true 256 byte_back b bytes_back lt in
    let same : option_map_or (λ d. nat_eq (dtype_byte d) b) (Some dtype) true ≡ true = ap (λ o. option_map_or (λ d. nat_eq (dtype_byte d) b) o true) (sym e) ∙ back in
    eqb-true _ _ same

abbrev Typed : List ℕ → DType × List ℕ → Type 0
Typed bytes x = Takes bytes (dtype_byte x.0 ∷ []) x.1

dtype_takes : (bytes : List ℕ) (x : DType × List ℕ) → IsBytes bytes → dtype_at bytes ≡ Some x → Typed bytes x
unfolding dtype_at
dtype_takes bytes x fits e =
    let byte = bind_some (byte_at bytes) (λ byte. dtype_of_byte byte.0 >>= λ dtype. Some (dtype, byte.1)) x e in
    let dtype = bind_some (dtype_of_byte byte.0.0) (λ dtype. Some (dtype, byte.0.1)) x byte.2 in
    let t = byte_takes bytes byte.0 fits byte.1 in
    let same : dtype_byte dtype.0 ≡ byte.0.0 = dtype_back byte.0.0 dtype.0 t.1 dtype.1 in
    let made : DType × List ℕ = (dtype.0, byte.0.1) in
    as_found (Typed bytes) made x dtype.2 (subst (λ (k : ℕ). Takes bytes (k ∷ []) byte.0.1) (sym same) t.0)

abbrev Named : List ℕ → List ℕ × List ℕ → Type 0
Named bytes x = Takes bytes (length x.0 ∷ x.0) x.1 × (length x.0 < 256) × (list_all (λ b. ltb b 128) x.0 ≡ true)

id_takes : (bytes : List ℕ) (x : List ℕ × List ℕ) → IsBytes bytes → id_at bytes ≡ Some x → Named bytes x
unfolding id_at
id_takes bytes x fits e =
    let size = bind_some (byte_at bytes) (λ size. front_at size.0 size.1 >>= λ id. cond (list_all (λ b. ltb b 128) id.0) (Some id) None) x e in
    let id = bind_some (front_at size.0.0 size.0.1) (λ id. cond (list_all (λ b. ltb b 128) id.0) (Some id) None) x size.2 in
    let g = allowed (list_all (λ b. ltb b 128) id.0.0) (Some id.0) x id.2 in
    let t0 = byte_takes bytes size.0 fits size.1 in
    let t1 = front_takes size.0.0 size.0.1 id.0 t0.0.rest_fits id.1 in
    let all = then_takes bytes (size.0.0 ∷ []) size.0.1 id.0.0 id.0.1 t0.0 t1.0 in
    let whole : Takes bytes (length id.0.0 ∷ id.0.0) id.0.1 = subst (λ (k : ℕ). Takes bytes (k ∷ id.0.0) id.0.1) (sym t1.2) all in
    as_found (Named bytes) id.0 x g.1 (whole, omega (arith, t1.2, t0.1), g.0)

abbrev Short : List ℕ → Type 0
Short buffer = length buffer < 2 ^ 64

abbrev Buffered : ℕ → List ℕ → List (List ℕ) × List ℕ → Type 0
Buffered n bytes x = Takes bytes (flat_map (length_prefixed w64) x.0) x.1 × (length x.0 ≡ n) × All Short x.0

buffers_take : (n : ℕ) (bytes : List ℕ) (x : List (List ℕ) × List ℕ) → IsBytes bytes → buffers_at n bytes ≡ Some x → Buffered n bytes x
unfolding buffers_at
buffers_take zero bytes x fits e = as_found (Buffered 0 bytes) ([], bytes) x e (record { parts = refl; rest_fits = fits }, refl, All-nil Short)
buffers_take (suc n) bytes x fits e =
    let b = bind_some (prefixed_at w64 bytes) (λ buffer. buffers_at n buffer.1 >>= λ others. Some (buffer.0 ∷ others.0, others.1)) x e in
    let o = bind_some (buffers_at n b.0.1) (λ others. Some (b.0.0 ∷ others.0, others.1)) x b.2 in
    let t0 = prefixed_takes_64 bytes b.0 fits b.1 in
    let t1 = buffers_take n b.0.1 o.0 t0.0.rest_fits o.1 in
    let made : List (List ℕ) × List ℕ = (b.0.0 ∷ o.0.0, o.0.1) in
    as_found (Buffered (suc n) bytes) made x o.2 (then_takes bytes (length_prefixed w64 b.0.0) b.0.1 (flat_map (length_prefixed w64) o.0.0) o.0.1 t0.0 t1.0, ap suc t1.1, All-cons Short b.0.0 o.0.0 t0.2 t1.2)

abbrev Headed : List ℕ → Head × List ℕ → Type 0
Headed bytes x = Takes bytes (head_bytes x.0) x.1 × HeadFits x.0

-- the head of these parts
abbrev head_made : List ℕ → DType → ℕ → List ℕ → List (List ℕ) → Head
head_made id dtype len metadata buffers = record { id = id; dtype = dtype; len = len; metadata = metadata; buffers = buffers }

-- the parts of a head, one taken after the other
head_joined : (bytes id r0 r1 r2 metadata r3 r4 r5 : List ℕ) (len count : ℕ) (dtype : DType) (buffers : List (List ℕ)) → Named bytes (id, r0) → Typed r0 (dtype, r1) → Numbered_64 r1 (len, r2) → Texted_32 r2 (metadata, r3) → Byted r3 (count, r4) → Buffered count r4 (buffers, r5)
    → Headed bytes (head_made id dtype len metadata buffers, r5)
head_joined bytes id r0 r1 r2 metadata r3 r4 r5 len count dtype buffers t_id t_dtype t_len t_metadata t_count t_buffers =
    let held : List ℕ = flat_map (length_prefixed w64) buffers in
    let last = then_takes r3 (count ∷ []) r4 held r5 t_count.0 t_buffers.0 in
    let counted : Takes r3 (length buffers ∷ held) r5 = subst (λ (k : ℕ). Takes r3 (k ∷ held) r5) (sym t_buffers.1) last in
    let back = then_takes r2 (length_prefixed w32 metadata) r3 (length buffers ∷ held) r5 t_metadata.0 counted in
    let middle = then_takes r1 (to_le_bytes w64 len) r2 (length_prefixed w32 metadata ++ (length buffers ∷ held)) r5 t_len.0 back in
    let typed = then_takes r0 (dtype_byte dtype ∷ []) r1 (to_le_bytes w64 len ++ (length_prefixed w32 metadata ++ (length buffers ∷ held))) r5 t_dtype middle in
    let whole = then_takes bytes (length id ∷ id) r0 (dtype_byte dtype ∷ (to_le_bytes w64 len ++ (length_prefixed w32 metadata ++ (length buffers ∷ held)))) r5 t_id.0 typed in
    let text : (length id ∷ id) ++ (dtype_byte dtype ∷ (to_le_bytes w64 len ++ (length_prefixed w32 metadata ++ (length buffers ∷ held)))) ≡ head_bytes (head_made id dtype len metadata buffers) =
    regroup id (to_le_bytes w64 len) (length_prefixed w32 metadata) held (length id) (dtype_byte dtype) (length buffers) in
    (subst (λ (t : List ℕ). Takes bytes t r5) text whole, record { id = t_id.1; ascii = ascii_all id t_id.2; len = t_len.1; metadata = t_metadata.1; buffer_count = omega (arith, t_buffers.1, t_count.1); buffers = t_buffers.2 })
  where
    regroup : (id len metadata held : List ℕ) (a b c : ℕ) → (a ∷ id) ++ (b ∷ (len ++ (metadata ++ (c ∷ held)))) ≡ a ∷ id ++ b ∷ len ++ metadata ++ c ∷ held
    regroup id len metadata held a b c = simp append_assoc

-- ---- the steps that are left, once the first of them have found something
behind_count : List ℕ → DType → ℕ → List ℕ → ℕ × List ℕ → Option (Head × List ℕ)
behind_count id dtype len metadata count = buffers_at count.0 count.1 >>= λ buffers. Some (head_made id dtype len metadata buffers.0, buffers.1)

behind_metadata : List ℕ → DType → ℕ → List ℕ × List ℕ → Option (Head × List ℕ)
behind_metadata id dtype len metadata = byte_at metadata.1 >>= behind_count id dtype len metadata.0

behind_len : List ℕ → DType → ℕ × List ℕ → Option (Head × List ℕ)
behind_len id dtype len = prefixed_at w32 len.1 >>= behind_metadata id dtype len.0

behind_dtype : List ℕ → DType × List ℕ → Option (Head × List ℕ)
behind_dtype id dtype = number_at w64 dtype.1 >>= behind_len id dtype.0

behind_id : List ℕ × List ℕ → Option (Head × List ℕ)
behind_id id = dtype_at id.1 >>= behind_dtype id.0

head_by_steps : (bytes : List ℕ) → head_at bytes ≡ (id_at bytes >>= behind_id)
unfolding head_at behind_id behind_dtype behind_len behind_metadata behind_count
head_by_steps bytes = refl

head_takes : (bytes : List ℕ) (x : Head × List ℕ) → IsBytes bytes → head_at bytes ≡ Some x → Headed bytes x
unfolding behind_id behind_dtype behind_len behind_metadata behind_count
head_takes bytes x fits e =
    let id = bind_some (id_at bytes) behind_id x (sym (head_by_steps bytes) ∙ e) in
    let dtype = bind_some (dtype_at id.0.1) (behind_dtype id.0.0) x id.2 in
    let len = bind_some (number_at w64 dtype.0.1) (behind_len id.0.0 dtype.0.0) x dtype.2 in
    let metadata = bind_some (prefixed_at w32 len.0.1) (behind_metadata id.0.0 dtype.0.0 len.0.0) x len.2 in
    let count = bind_some (byte_at metadata.0.1) (behind_count id.0.0 dtype.0.0 len.0.0 metadata.0.0) x metadata.2 in
    let buffers = bind_some (buffers_at count.0.0 count.0.1) (λ buffers. Some (head_made id.0.0 dtype.0.0 len.0.0 metadata.0.0 buffers.0, buffers.1)) x count.2 in
    let t_id = id_takes bytes id.0 fits id.1 in
    let t_dtype = dtype_takes id.0.1 dtype.0 t_id.0.rest_fits dtype.1 in
    let t_len = number_takes_64 dtype.0.1 len.0 t_dtype.rest_fits len.1 in
    let t_metadata = prefixed_takes_32 len.0.1 metadata.0 t_len.0.rest_fits metadata.1 in
    let t_count = byte_takes metadata.0.1 count.0 t_metadata.0.rest_fits count.1 in
    let t_buffers = buffers_take count.0.0 count.0.1 buffers.0 t_count.0.rest_fits buffers.1 in
    let made : Head × List ℕ = (head_made id.0.0 dtype.0.0 len.0.0 metadata.0.0 buffers.0.0, buffers.0.1) in
    as_found (Headed bytes) made x buffers.2
    (head_joined bytes id.0.0 id.0.1 dtype.0.1 len.0.1 metadata.0.0 metadata.0.1 count.0.1 buffers.0.1 len.0.0 count.0.0 dtype.0.0 buffers.0.0 t_id t_dtype t_len t_metadata t_count t_buffers)

-- ---- nodes
-- a node's reader that finds only texts of nodes that are so deep
abbrev Reads : ℕ → (List ℕ → Option Node) → Type 0
Reads d child = (bytes : List ℕ) (node : Node) → IsBytes bytes → child bytes ≡ Some node → (bytes ≡ node_bytes node) × (depth node ≤ d) × NodeFits node

abbrev Noded : ℕ → ℕ → List ℕ → Nodes × List ℕ → Type 0
Noded d n bytes x = Takes bytes (nodes_bytes x.0) x.1 × (node_count x.0 ≡ n) × (depth_of x.0 ≤ d) × NodesFit x.0

nodes_take : (d : ℕ) (child : List ℕ → Option Node) (n : ℕ) (bytes : List ℕ) (x : Nodes × List ℕ) → Reads d child → IsBytes bytes → nodes_at child n bytes ≡ Some x → Noded d n bytes x
unfolding nodes_at node_bytes
nodes_take d child zero bytes x reads fits e =
    as_found (Noded d 0 bytes) (NoMore, bytes) x e (record { parts = refl; rest_fits = fits }, refl, omega arith, tt)
nodes_take d child (suc n) bytes x reads fits e =
    let h = bind_some (prefixed_at w64 bytes) (λ text. child text.0 >>= λ node. nodes_at child n text.1 >>= λ others. Some (And node others.0, others.1)) x e in
    let c = bind_some (child h.0.0) (λ node. nodes_at child n h.0.1 >>= λ others. Some (And node others.0, others.1)) x h.2 in
    let r = bind_some (nodes_at child n h.0.1) (λ others. Some (And c.0 others.0, others.1)) x c.2 in
    let t0 = prefixed_takes_64 bytes h.0 fits h.1 in
    let t1 = reads h.0.0 c.0 t0.1 c.1 in
    let t2 = nodes_take d child n h.0.1 r.0 reads t0.0.rest_fits r.1 in
    let all = then_takes bytes (length_prefixed w64 h.0.0) h.0.1 (nodes_bytes r.0.0) r.0.1 t0.0 t2.0 in
    let whole : Takes bytes (nodes_bytes (And c.0 r.0.0)) r.0.1 = subst (λ (t : List ℕ). Takes bytes (length_prefixed w64 t ++ nodes_bytes r.0.0) r.0.1) t1.0 all in
    let small : length (node_bytes c.0) < 2 ^ 64 = omega (arith, ap length t1.0, t0.2) in
    let made : Nodes × List ℕ = (And c.0 r.0.0, r.0.1) in
    as_found (Noded d (suc n) bytes) made x r.2 (whole, ap suc t2.1, omega (arith, t1.1, t2.2), (t1.2, small, t2.3))

pub node_takes : (d : ℕ) → Reads d (node_in d)
unfolding node_in node_bytes
node_takes zero bytes node fits e = absurd cc
node_takes (suc d) bytes node fits e =
    let h = bind_some (head_at bytes) (λ head. byte_at head.1 >>= λ n. nodes_at (node_in d) n.0 n.1 >>= λ c. cond (eqb (length c.1) 0) (Some (Of head.0 c.0)) None) node e in
    let n = bind_some (byte_at h.0.1) (λ n. nodes_at (node_in d) n.0 n.1 >>= λ c. cond (eqb (length c.1) 0) (Some (Of h.0.0 c.0)) None) node h.2 in
    let c = bind_some (nodes_at (node_in d) n.0.0 n.0.1) (λ c. cond (eqb (length c.1) 0) (Some (Of h.0.0 c.0)) None) node n.2 in
    let g = allowed (eqb (length c.0.1) 0) (Some (Of h.0.0 c.0.0)) node c.2 in
    let t0 = head_takes bytes h.0 fits h.1 in
    let t1 = byte_takes h.0.1 n.0 t0.0.rest_fits n.1 in
    let t2 = nodes_take d (node_in d) n.0.0 n.0.1 c.0 (node_takes d) t1.0.rest_fits c.1 in
    let none : c.0.1 ≡ [] = nil_from_length c.0.1 (eqb-true _ _ g.0) in
    let all = (then_takes bytes (head_bytes h.0.0) h.0.1 (n.0.0 ∷ nodes_bytes c.0.0) c.0.1 t0.0 (then_takes h.0.1 (n.0.0 ∷ []) n.0.1 (nodes_bytes c.0.0) c.0.1 t1.0 t2.0)).parts in
    let whole : bytes ≡ node_bytes (Of h.0.0 c.0.0) = all ∙ ap (λ (r : List ℕ). (head_bytes h.0.0 ++ n.0.0 ∷ nodes_bytes c.0.0) ++ r) none ∙ append-nil (head_bytes h.0.0 ++ n.0.0 ∷ nodes_bytes c.0.0) ∙ ap (λ (k : ℕ). head_bytes h.0.0 ++ k ∷ nodes_bytes c.0.0) (sym t2.1) in
    as_found (λ (u : Node). (bytes ≡ node_bytes u) × (depth u ≤ suc d) × NodeFits u) (Of h.0.0 c.0.0) node g.1 (whole, omega (arith, t2.2), (t0.1, omega (arith, t2.1, t1.1), t2.3))

-- ---- containers
beginning : (bytes : List ℕ) → bytes_eq bytes (codes "FLC1") ≡ true → bytes ≡ codes "FLC1"
beginning bytes e = (bytes_eq-Decides bytes (codes "FLC1")).0 e

container_found : (bytes : List ℕ) (node : Node) → IsBytes bytes → container_of bytes ≡ Some node → IsContainer bytes node
container_found bytes node fits e =
    let f = bind_some (front_at 4 bytes) (λ x. cond (bytes_eq x.0 (codes "FLC1")) (node_in 16 x.1) None) node e in
    let g = allowed (bytes_eq f.0.0 (codes "FLC1")) (node_in 16 f.0.1) node f.2 in
    let t = front_takes 4 bytes f.0 fits f.1 in
    let n = node_takes 16 f.0.1 node t.0.rest_fits g.1 in
    record { text = t.0.parts ∙ ap (λ (b : List ℕ). b ++ f.0.1) (beginning f.0.0 g.0) ∙ ap (λ (r : List ℕ). codes "FLC1" ++ r) n.0; shallow = n.1; fits = n.2 }

pub container_is_read : ContainerIsRead
container_is_read bytes node fits = (container_found bytes node (are_bytes bytes fits), container_again bytes node)

-- ---- what a call answers
pub read_as : (bytes : List ℕ) (r : Result Node ContainerError) → IsBytes bytes → Finds (λ node. node) r (container_of bytes) → IsReading bytes r
read_as bytes (Ok node) fits found = container_found bytes node fits found
read_as bytes (Err OutOfMemory) fits found = tt
read_as bytes (Err BadContainer) fits none = λ node is. absurd (clash (container_of bytes) node none (container_again bytes node is))
  where
    clash : (o : Option Node) (node : Node) → o ≡ None → o ≡ Some node → ⊥
    clash o node p q = absurd cc

pub same_again : (bytes written : List ℕ) (node : Node) (r : Result Node ContainerError) → IsContainer written node → bytes ≡ written → IsReading bytes r → IfOk r (λ again. again ≡ node)
same_again bytes written node (Ok again) is same read = one_node_at_most bytes again node read (subst (λ bs. IsContainer bs node) (sym same) is)
same_again bytes written node (Err e) is same read = tt
