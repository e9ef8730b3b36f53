use Rattle.fl_array.proofs.FoRLaws.{for_validity}
use Rattle.fl_array.proofs.for_.FoRArray.column_validity.Goals as goal

pub returns : goal.returns
returns c = for_validity c.args.self.now c.args.validity c.requires
