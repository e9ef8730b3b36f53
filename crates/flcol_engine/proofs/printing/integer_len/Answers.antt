use Rattle.std.proofs.Common.{ap, sym, ◌∙◌, rules}
use Rattle.std.specs.Prelude.{int_lt}
use Rattle.flcol_engine.proofs.LengthLemmas.{minus_len, plain_len}
use Rattle.flcol_engine.proofs.printing.integer_len.Goals as goal

pub returns-then-is_less : goal.returns-then-is_less
returns-then-is_less g c =
    let sign = ap (int_lt (g.T.Number.value c.args.x)) (sym c.zero.ensures) ∙ (sym c.is_less.ensures ∙ c.if-is_less.true) in
    minus_len (g.T.Number.value c.args.x) c.max.result c.ilog10.result sign (rw (← c.unsigned_abs.ensures) c.unsigned_abs.type_inv) (rw (← c.unsigned_abs.ensures) c.max.ensures) c.ilog10.ensures.power_le c.ilog10.ensures.next_power_gt

pub returns-else-is_less : goal.returns-else-is_less
returns-else-is_less g c =
    let sign = ap (int_lt (g.T.Number.value c.args.x)) (sym c.zero.ensures) ∙ (sym c.is_less.ensures ∙ c.if-is_less.false) in
    plain_len (g.T.Number.value c.args.x) c.max.result c.ilog10.result sign (rw (← c.unsigned_abs.ensures) c.unsigned_abs.type_inv) (rw (← c.unsigned_abs.ensures) search rules) c.ilog10.ensures.power_le c.ilog10.ensures.next_power_gt
