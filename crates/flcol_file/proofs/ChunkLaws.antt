-- Chunks that are written and read.
use Rattle.std.proofs.Common.{◌≡◌, ℕ, List, Option, Some, None, Result, Ok, Err, IsErrAnd, false, inl, inr, ap, refl, sym, ◌∙◌, subst}
use Rattle.fl_types.specs.declared.error.FastLanesError.{FastLanesError}
use Rattle.fl_types.specs.Refusals.{Refuses}
use Rattle.fl_types.proofs.RefusalLaws.{Refuses_cases}
use Rattle.fl_array.specs.Trees.{Tree, column}
use Rattle.fl_metadata.specs.WrittenText.{AreBytes}
use Rattle.fl_serialized.specs.Nodes.{Node}
use Rattle.fl_serde.specs.Reading.{reading}
use Rattle.fl_serde.specs.RoundTrip.{IsReadBack, read_back}
use Rattle.fl_serde.specs.Writing.{written}
use Rattle.fl_serde.proofs.ColumnsAgain.{column_back}
use Rattle.flcol_container.specs.declared.error.ContainerError.{ContainerError}
use Rattle.flcol_container.specs.declared.error.ContainerError.TheVariants as containers
use Rattle.flcol_container.specs.Container.{HasNoContainer, IsContainer, IsNoContainer}
use Rattle.flcol_container.specs.ContainerReading.{container_of}
use Rattle.flcol_container.specs.Outcomes.{IsReading, IsWriting}
use Rattle.flcol_container.proofs.Again.{container_again}
use Rattle.flcol_container.proofs.Sound.{container_is_read}
use Rattle.flcol_file.specs.declared.error.ColumnFileError.{ColumnFileError}
use Rattle.flcol_file.specs.declared.error.ColumnFileError.TheVariants.{Array, BadContainer}
use Rattle.flcol_file.specs.Outcomes.{AnswersFrom, of_container}
use Rattle.flcol_file.specs.Chunks.{GivesChunk, IsChunkOf, LacksContainer, array_of, array_of_node, of_reading}

-- ---- the array of a container
array_in : (bytes : List ℕ) (node : Node) → IsContainer bytes node → array_of bytes ≡ of_reading (reading node)
unfolding array_of
array_in bytes node is = ap array_of_node (container_again bytes node is)

nothing_found : (bytes : List ℕ) (o : Option Node) → container_of bytes ≡ o → ((node : Node) → container_of bytes ≡ Some node → IsContainer bytes node) → IsNoContainer bytes → array_of_node o ≡ Err BadContainer
nothing_found bytes None is found none = refl
nothing_found bytes (Some node) is found none = absurd (none node (found node is))

no_container : (bytes : List ℕ) → AreBytes bytes → IsNoContainer bytes → array_of bytes ≡ Err BadContainer
unfolding array_of
no_container bytes fits none = nothing_found bytes (container_of bytes) refl (λ node is. (container_is_read bytes node fits).0 is) none

-- ---- what is read
pub container_refused : (bytes : List ℕ) (r : Result Tree ColumnFileError) (e : ContainerError) → AreBytes bytes → IsErrAnd r (λ x. x ≡ of_container e) → IsReading bytes (Err e) → AnswersFrom false (λ a. a) r (array_of bytes)
container_refused bytes (Ok x) e fits h none = absurd h
container_refused bytes (Err x) containers.OutOfMemory fits h none = inl (inl h)
container_refused bytes (Err x) containers.BadContainer fits h none = inr (no_container bytes fits none ∙ ap (λ y. Err y) (sym h))

pub array_refused : (bytes : List ℕ) (node : Node) (r : Result Tree ColumnFileError) (e : FastLanesError) → IsContainer bytes node → IsErrAnd r (λ x. x ≡ Array e) → Refuses e (reading node) → AnswersFrom false (λ a. a) r (array_of bytes)
array_refused bytes node (Ok x) e is h refused = absurd h
array_refused bytes node (Err x) e is h refused = elim (Refuses_cases e (reading node) refused) [
  | inl memory ↦ inl (inl (h ∙ ap Array memory))
  | inr read ↦ inr (array_in bytes node is ∙ (ap of_reading read ∙ ap (λ y. Err y) (sym h)))
]

pub array_read : (bytes : List ℕ) (node : Node) (t : Tree) → IsContainer bytes node → reading node ≡ Ok t → array_of bytes ≡ Ok t
array_read bytes node t is read = array_in bytes node is ∙ ap of_reading read

-- ---- what is written
pub chunk_written : (t : Tree) (bytes : List ℕ) (node : Node) → IsContainer bytes node → node ≡ written t → IsReadBack t → IsChunkOf (column t) bytes
chunk_written t bytes node is same back = (read_back t, array_read bytes node (read_back t) is (ap reading same ∙ back.reads), column_back t)

lacks : (t : Tree) (node : Node) → HasNoContainer node → node ≡ written t → LacksContainer t
unfolding LacksContainer
lacks t node none same = subst (λ (n : Node). HasNoContainer n) same none

pub chunk_refused : {X : Type 0} (view : X → List ℕ) (t : Tree) (node : Node) (r : Result X ColumnFileError) (e : ContainerError) → IsErrAnd r (λ x. x ≡ of_container e) → IsWriting view node (Err e) → node ≡ written t → GivesChunk view t r
chunk_refused view t node (Ok x) e h w is = absurd h
chunk_refused view t node (Err x) containers.OutOfMemory h w is = inl h
chunk_refused view t node (Err x) containers.BadContainer h w is = inr (h, lacks t node w.1 is)

pub node_is : (a b : Node) (r : Result Node FastLanesError) → r ≡ Ok a → r ≡ Ok b → b ≡ a
node_is a b r p q = cc
