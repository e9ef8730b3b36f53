use Rattle.std.proofs.Common.{◌≡◌, map, take, true}
use Rattle.std.specs.List.{list_all}
use Rattle.std.specs.Ordering.{int_eq}
use Rattle.fl_codec.proofs.for_.common_reference.Given as goal

-- the references so far are the first
abbrev pub invariant-loop-reference : goal.invariant-loop-reference
invariant-loop-reference g l =
    let value = g.T.Number.value in
    list_all (int_eq (value l.first)) (map value (take l.reference-index l.references)) ≡ true
