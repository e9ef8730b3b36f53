use Rattle.std.proofs.Common.{◌∙◌, sym}
use Rattle.fl_column.proofs.ConstantLaws.{constant_filter}
use Rattle.fl_column.proofs.constant.ConstantArray.filter.Goals as goal

pub returns : goal.returns
returns c = rw (constant_filter c.args.self.now c.args.mask.now (c.requires ∙ (sym c.len-len.ensures.items ∙ c.len-len.ensures.constant_items)), ← c.count_true.ensures) (rw c.with_len.ensures at c.decode.ensures)
