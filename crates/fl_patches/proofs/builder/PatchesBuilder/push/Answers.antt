use Rattle.fl_patches.proofs.Sparse.{found_none, found_some}
use Rattle.fl_patches.proofs.builder.PatchesBuilder.push.Goals as goal

pub returns-in_ok-push-2-clause-found : goal.returns-in_ok-push-2-clause-found
returns-in_ok-push-2-clause-found c = λ items len found.
    let both = found_some c.args.self.now.places.items c.args.self.now.ranks.items items c.args.place c.in-Some.rank len found in
    rw (c.in_ok-push.ensures.items, c.in_ok-push-2.ensures.items, c.in-Some.is) both

pub returns-in_default-clause-found : goal.returns-in_default-clause-found
returns-in_default-clause-found c = λ items len found. rw c.in_default.is (found_none c.args.self.now.places.items c.args.self.now.ranks.items items found)
