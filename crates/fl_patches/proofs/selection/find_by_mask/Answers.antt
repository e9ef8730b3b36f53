use Rattle.std.proofs.Common.{refl, sym}
use Rattle.fl_patches.proofs.Kept.{length_positions, positions_all, positions_none}
use Rattle.fl_patches.proofs.selection.find_by_mask.Goals as goal

pub returns-in_ok-find_all-in-AllTrue-clause-found : goal.returns-in_ok-find_all-in-AllTrue-clause-found
returns-in_ok-find_all-in-AllTrue-clause-found c =
    let n = c.in-AllTrue.len in
    let last = rw c.in-AllTrue.is at c.requires.last in
    rw (c.in-AllTrue.is, positions_all n) (c.in_ok-find_all-in-AllTrue.ensures.found n last)

pub returns-in_ok-find_all-in-AllTrue-clause-len : goal.returns-in_ok-find_all-in-AllTrue-clause-len
returns-in_ok-find_all-in-AllTrue-clause-len c = rw (c.in-AllTrue.is, positions_all c.in-AllTrue.len) (sym (length_positions c.in-AllTrue.len))

pub returns-in-AllFalse-clause-found : goal.returns-in-AllFalse-clause-found
returns-in-AllFalse-clause-found c = rw (c.in-AllFalse.is, positions_none c.in-AllFalse.field-0 c.in-AllFalse.field-0) c.new.ensures

pub returns-in-AllFalse-clause-len : goal.returns-in-AllFalse-clause-len
returns-in-AllFalse-clause-len c = rw (c.in-AllFalse.is, positions_none c.in-AllFalse.field-0 c.in-AllFalse.field-0) refl
