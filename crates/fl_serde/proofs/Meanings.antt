-- What is written stands for the array's column, and is read as an array of it.
use Rattle.std.proofs.Common.{◌≡◌, ◌∙◌, Result, Ok, Err, sym, ap, subst}
use Rattle.std.specs.Prelude.{IfOk}
use Rattle.fl_types.specs.declared.error.FastLanesError.{FastLanesError}
use Rattle.fl_types.specs.Refusals.{Answers}
use Rattle.fl_types.proofs.RefusalLaws.{Refuses_map}
use Rattle.fl_column.specs.Columns.{Column}
use Rattle.fl_array.specs.Trees.{Tree, column}
use Rattle.fl_serialized.specs.Nodes.{Node}
use Rattle.fl_serde.specs.NodeColumns.{StandsFor}
use Rattle.fl_serde.specs.Reading.{reading}
use Rattle.fl_serde.specs.RoundTrip.{IsReadBack, read_back}
use Rattle.fl_serde.specs.Writing.{written}
use Rattle.fl_serde.proofs.ColumnsAgain.{column_back}
use Rattle.fl_serde.proofs.NodesStand.{stands_read}

-- the node of an array that is read as it was written
written_stands : (t : Tree) → IsReadBack t → StandsFor (written t) (column t)
written_stands t back = subst (StandsFor (written t)) (column_back t) (stands_read (written t) (read_back t) back.reads)

-- what a call answers that writes an array
pub answer_written : (r : Result Node FastLanesError) (t : Tree) → IsReadBack t → Answers (λ node. node) r (Ok (written t)) → IfOk r (λ node. StandsFor node (column t))
answer_written (Ok node) t back h = subst (λ n. StandsFor n (column t)) (node_is (written t) node h) (written_stands t back)
  where
    node_is : (m n : Node) → (let r : Result Node FastLanesError = Ok m in r) ≡ Ok n → m ≡ n
    node_is m n e = cc
answer_written (Err e) t back h = tt

-- an array that is read of a node has the one column for which the node stands
pub answer_column : (r : Result Tree FastLanesError) (node : Node) (t back : Tree) → StandsFor node (column t) → IfOk r (λ a. StandsFor node (column a)) → ((n : Node) (c d : Column) → StandsFor n c → StandsFor n d → c ≡ d)
    → reading node ≡ Ok back → Answers (λ a. a) r (reading node) → Answers column r (Ok (column t))
answer_column (Ok a) node t back stands found one reads h = ap (λ c. Ok c) (one node (column t) (column a) stands found)
answer_column (Err e) node t back stands found one reads h = Refuses_map e (reading node) (Ok (column t)) (λ refused. absurd (never (sym reads ∙ refused))) h
  where
    never : (let r : Result Tree FastLanesError = Ok back in r) ≡ Err e → ⊥
    never k = absurd cc
