use Rattle.fl_patches.proofs.Gathers.{gathered_pushed}
use Rattle.fl_patches.proofs.gathering.Exceptions.push.Goals as goal

pub returns : goal.returns
returns g c = λ before len so.
    gathered_pushed g.T.Number.value c.args.self.now.places.items c.push.new.self.items c.args.self.now.values.items c.push-2.new.self.items before c.args.place c.args.value c.in_ok-push.ensures.items c.in_ok-push-2.ensures.items len so
