use Rattle.std.proofs.Common.{◌<◌, suc, ap, sym, ◌∙◌, subst}
use Rattle.std.specs.List.{All}
use Rattle.fl_serialized.specs.Nodes.{children_of, depth, depth_of, listed, nodes_of}
use Rattle.fl_serialized.proofs.Listed.{listed_nodes, one_smaller}
use Rattle.fl_serialized.proofs.array.SerializedArray.children.Goals as goal

pub returns-clause-children : goal.returns-clause-children
returns-clause-children c = c.deref.ensures.value ∙ sym (listed_nodes c.self.inside.children.items) ∙ ap (λ n. listed (children_of n)) c.self.view_is

pub returns-clause-smaller : goal.returns-clause-smaller
returns-clause-smaller c = subst (λ n. All (λ child. depth child < depth n) c.deref.result.now) c.self.view_is (subst (λ xs. All (λ child. depth child < suc (depth_of (nodes_of c.self.inside.children.items))) xs) (sym c.deref.ensures.value) (one_smaller c.self.inside.children.items))
