-- Containers that are read and written.
use Rattle.std.proofs.Common.{inl, inr, ◌≡◌, ◌≢◌, ℕ, ℤ, List, Result, Ok, Err, ap, ◌∙◌, subst, refl}
use Rattle.fl_types.specs.declared.error.FastLanesError.{FastLanesError}
use Rattle.fl_types.specs.declared.error.FastLanesError.TheVariants.{OutOfMemory}
use Rattle.fl_types.specs.Refusals.{Refuses}
use Rattle.fl_types.proofs.RefusalLaws.{Refuses_cases}
use Rattle.fl_array.specs.Trees.{Tree}
use Rattle.fl_serialized.specs.Nodes.{Node}
use Rattle.fl_serde.specs.Reading.{reading}
use Rattle.fl_serde.specs.Writing.{written}
use Rattle.flcol_container.specs.declared.error.ContainerError.{ContainerError}
use Rattle.flcol_container.specs.declared.error.ContainerError.TheVariants as containers
use Rattle.flcol_container.specs.Container.{HasNoContainer, IsContainer, IsNoContainer}
use Rattle.flcol_container.specs.Outcomes.{IsMeasuring, IsWriting}
use Rattle.flcol_c.specs.declared.fault.Fault.{Fault}
use Rattle.flcol_c.specs.declared.fault.Fault.TheVariants.{BadContainer, Refused}
use Rattle.flcol_c.specs.Containers.{GivesArray, GivesContainerLen, IsReadStatus}
use Rattle.flcol_c.specs.Statuses.{status_of}
use Rattle.flcol_c.proofs.StatusLaws.{Told}

-- the array of a container's node
pub array_given : (bytes : List ℕ) (node : Node) (t : Tree) → IsContainer bytes node → reading node ≡ Ok t → GivesArray bytes (Ok t)
array_given bytes node t is read = (node, is, read)

-- a node that is refused
pub node_refused : (bytes : List ℕ) (node : Node) (e : FastLanesError) → IsContainer bytes node → Refuses e (reading node) → GivesArray bytes (Err (Refused e))
node_refused bytes node e is refused = λ (other : Refused e ≢ Refused OutOfMemory).
    elim (Refuses_cases e (reading node) refused) [ inl memory ↦ absurd (other (ap Refused memory)) | inr read ↦ inr (node, e, is, read, refl) ]

-- bytes that are no container
pub no_container : (bytes : List ℕ) → IsNoContainer bytes → GivesArray bytes (Err BadContainer)
no_container bytes none = λ (_ : BadContainer ≢ Refused OutOfMemory). inl (refl, none)

-- how long the container of an array's node is
pub len_given : (t : Tree) (node : Node) (n : ℕ) → node ≡ written t → IsMeasuring node (Ok n) → GivesContainerLen t (Ok n)
len_given t node n is (bytes, container, len) = (bytes, subst (λ (of : Node). IsContainer bytes of) is container, len)

-- the status of what was read says the fault
pub status_read : (bytes : List ℕ) (r : Result Tree Fault) (s : ℤ) → GivesArray bytes r → Told r s → IsReadStatus bytes s
status_read bytes (Ok t) s g told some other = absurd (some (told other))
status_read bytes (Err f) s g told some other =
    let memory : f ≢ Refused OutOfMemory = λ (is : f ≡ Refused OutOfMemory). other (told ∙ ap status_of is) in
    (f, told, g memory)

-- a node that lacks room has no container
pub lacks_room : {X : Type 0} (view : X → List ℕ) (node : Node) (r : Result X ContainerError) → IsWriting view node r → r ≡ Err containers.BadContainer → HasNoContainer node
lacks_room view node r h e = (subst (λ s. IsWriting view node s) e h).1

-- the same of one that was measured
pub lacks_len : (node : Node) (r : Result ℕ ContainerError) → IsMeasuring node r → r ≡ Err containers.BadContainer → HasNoContainer node
lacks_len node r h e = (subst (λ s. IsMeasuring node s) e h).1
