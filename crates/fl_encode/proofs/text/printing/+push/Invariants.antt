use Rattle.std.proofs.Common.{◌+◌}
use Rattle.fl_encode.specs.SchemeShapes.{shape}
use Rattle.fl_encode.proofs.SchemeLaws.{size}
use Rattle.fl_encode.proofs.text.printing.+push.Given as goal

abbrev pub decreases-push_scheme : goal.decreases-push_scheme
decreases-push_scheme l = size (shape l.scheme.now)

abbrev pub decreases-push_child : goal.decreases-push_child
decreases-push_child l = size l.child.now + 1

abbrev pub decreases-push_one : goal.decreases-push_one
decreases-push_one l = size l.child.now + 2

abbrev pub decreases-push_two : goal.decreases-push_two
decreases-push_two l = size l.first.now + size l.second.now + 2

abbrev pub decreases-push_three : goal.decreases-push_three
decreases-push_three l = size l.first.now + (size l.second.now + size l.third.now) + 2
