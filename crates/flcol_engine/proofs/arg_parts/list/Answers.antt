use Rattle.std.proofs.Common.{Ok, ap, sym, ◌∙◌}
use Rattle.flcol_engine.proofs.WordLemmas.{last_read, last_refused, part_read, part_refused}
use Rattle.flcol_engine.proofs.arg_parts.list.Goals as goal

pub loop-part-preserved : goal.loop-part-preserved
loop-part-preserved g c = rw c.in_ok-push.ensures.items (part_read g.T.Element.said c.in-Some-parse.element c.loop-part.elements.items c.loop-part.rest.now c.in-Some.part.now c.in-Some.next.now c.args.text.now c.in-Some.ensures.halves c.in-Some-parse.ensures c.loop-part.invariant)

pub returns-in_default-parse : goal.returns-in_default-parse
returns-in_default-parse g c = ap Ok (part_refused g.T.Element.said c.loop-part.elements.items c.loop-part.rest.now c.in-Some.part.now c.in-Some.next.now c.args.text.now (sym c.is_empty.ensures ∙ c.if-is_empty.false) c.in-Some.ensures.halves c.in_default-parse.ensures c.loop-part.invariant)

pub returns-in_default-parse-2 : goal.returns-in_default-parse-2
returns-in_default-parse-2 g c = ap Ok (last_refused _ _ _ _ (sym c.is_empty.ensures ∙ c.if-is_empty.false) c.in_default.ensures.halves c.in_default-parse-2.ensures c.loop-part.invariant)

pub returns : goal.returns
returns g c = ap Ok (rw c.in_ok-push-2.ensures.items (last_read g.T.Element.said c.in-Some-parse-2.element c.loop-part.elements.items c.loop-part.rest.now c.args.text.now (sym c.is_empty.ensures ∙ c.if-is_empty.false) c.in_default.ensures.halves c.in-Some-parse-2.ensures c.loop-part.invariant))
