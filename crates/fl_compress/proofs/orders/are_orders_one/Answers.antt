use Rattle.std.proofs.Common.{sym, ap, ◌∙◌}
use Rattle.std.proofs.lemmas.Bool.{eqb-true}
use Rattle.fl_types.specs.Integers.{is_unsigned}
use Rattle.fl_compress.specs.Choices.{part_of}
use Rattle.fl_compress.proofs.PartLaws.{part_covers, part_fits}
use Rattle.fl_compress.proofs.AlikeLaws.{narrow_alike, signed_alike}
use Rattle.fl_compress.proofs.orders.are_orders_one.Goals as goal

pub returns-then-is_unsigned-clause-one : goal.returns-then-is_unsigned-clause-one
returns-then-is_unsigned-clause-one c = λ none. (narrow_alike (part_of c.args.part c.args.array.now) c.args.statistics.now c.requires (part_covers c.args.part c.args.array.now c.validity-validity.ensures.covers) (part_fits c.args.part c.args.array.now c.stored_integers_are_in_range.ensures.slots) (ap is_unsigned (sym c.ptype_of.ensures) ∙ (sym c.is_unsigned.ensures ∙ c.if-is_unsigned.true)) (eqb-true _ _ none)).one

pub returns-then-is_unsigned-clause-many : goal.returns-then-is_unsigned-clause-many
returns-then-is_unsigned-clause-many c = λ none. (narrow_alike (part_of c.args.part c.args.array.now) c.args.statistics.now c.requires (part_covers c.args.part c.args.array.now c.validity-validity.ensures.covers) (part_fits c.args.part c.args.array.now c.stored_integers_are_in_range.ensures.slots) (ap is_unsigned (sym c.ptype_of.ensures) ∙ (sym c.is_unsigned.ensures ∙ c.if-is_unsigned.true)) (eqb-true _ _ none)).many

pub returns-clause-one : goal.returns-clause-one
returns-clause-one c = λ _. (signed_alike (part_of c.args.part c.args.array.now) (ap is_unsigned (sym c.ptype_of.ensures) ∙ (sym c.is_unsigned.ensures ∙ c.if-is_unsigned.false))).one

pub returns-clause-many : goal.returns-clause-many
returns-clause-many c = λ _. (signed_alike (part_of c.args.part c.args.array.now) (ap is_unsigned (sym c.ptype_of.ensures) ∙ (sym c.is_unsigned.ensures ∙ c.if-is_unsigned.false))).many
