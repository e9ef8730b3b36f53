use Rattle.fl_ops.proofs.array_ops.ArrayRefArrayOps.compare_counted.Goals as goal

pub returns-in_ok-answers-in-None-clause-work : goal.returns-in_ok-answers-in-None-clause-work
returns-in_ok-answers-in-None-clause-work c =
    let none = rw c.in-None.is at c.in_ok-answers.ensures.none in
    rw c.integer_for-integer.ensures.value at (c.encoded_comparison.ensures.work c.new.result (none c.new.result))
