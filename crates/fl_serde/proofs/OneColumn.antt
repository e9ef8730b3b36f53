-- A node stands for one column.
use Rattle.std.proofs.Common.{◌≡◌, ◌∙◌, List, [], ◌∷◌, length, Result, Ok, refl, sym, ap}
use Rattle.fl_types.specs.declared.error.FastLanesError.{FastLanesError}
use Rattle.fl_types.specs.Bits.{tabulate}
use Rattle.fl_column.specs.Columns.{Column}
use Rattle.fl_serialized.specs.Nodes.{And, Head, NoMore, Node, Nodes, Of}
use Rattle.fl_serde.specs.declared.node_info.NodeInfo.{NodeInfo}
use Rattle.fl_serde.specs.Checks.{checked}
use Rattle.fl_serde.specs.NodeColumns.{HasColumn, StandForEach, StandsFor, item_said}

one_info : (m n : NodeInfo) → (let r : Result NodeInfo FastLanesError = Ok m in r) ≡ Ok n → m ≡ n
one_info m n h = cc

one_said : (head : Head) (cs ds : List Column) (c d : Column) → cs ≡ ds → HasColumn head cs c → HasColumn head ds d → c ≡ d
one_said head cs ds c d e h k =
    let info = one_info h.info k.info (sym h.said ∙ ap (λ xs. checked head (length xs)) e ∙ k.said) in
    h.items
    ∙ ap (λ m. let x : Column = record { dtype = head.dtype; items = tabulate (item_said head m cs) head.len } in x) info
    ∙ ap (λ xs. let x : Column = record { dtype = head.dtype; items = tabulate (item_said head k.info xs) head.len } in x) e
    ∙ sym k.items

mutual
  pub one_column : (node : Node) (c d : Column) → StandsFor node c → StandsFor node d → c ≡ d
  one_column (Of head children) c d h k = one_said head h.0 k.0 c d (each_one children h.0 k.0 h.1 k.1) h.2 k.2

  each_one : (nodes : Nodes) (cs ds : List Column) → StandForEach nodes cs → StandForEach nodes ds → cs ≡ ds
  each_one NoMore [] [] h k = refl
  each_one NoMore [] (d ∷ ds) h k = absurd k
  each_one NoMore (c ∷ cs) ds h k = absurd h
  each_one (And node nodes) [] ds h k = absurd h
  each_one (And node nodes) (c ∷ cs) [] h k = absurd k
  each_one (And node nodes) (c ∷ cs) (d ∷ ds) h k = ap (λ x. x ∷ cs) (one_column node c d h.0 k.0) ∙ ap (λ xs. d ∷ xs) (each_one nodes cs ds h.1 k.1)
