use Rattle.std.proofs.Common.{ap, sym, ◌∙◌, refl, ◌++◌, ◌+◌, ◌-◌, ◌/◌}
use Rattle.std.proofs.lemmas.List.{append-nil}
use Rattle.fl_metadata.specs.WrittenText.{groups_text, varint_text}
use Rattle.fl_metadata.proofs.WrittenGroups.{last_group, next_group, no_group}
use Rattle.fl_metadata.proofs.writing.push_varint.Goals as goal

pub loop-init : goal.loop-init
unfolding varint_text
loop-init c = refl

pub returns-then-left-lt128 : goal.returns-then-left-lt128
returns-then-left-lt128 c = c.in_ok-push.ensures.items ∙ last_group c.loop.counter c.loop.left c.loop.out.items c.loop-test.true c.if-left-lt128.true ∙ c.loop.invariant

pub loop-preserved : goal.loop-preserved
loop-preserved c = ap (λ out. out ++ groups_text (10 - (c.loop.counter + 1)) (c.loop.left / 128)) c.in_ok-push-2.ensures.items ∙ next_group c.loop.counter c.loop.left c.loop.out.items c.loop-test.true c.if-left-lt128.false ∙ c.loop.invariant

pub returns : goal.returns
returns c = sym (append-nil c.loop.out.items) ∙ sym (no_group c.loop.counter c.loop.left c.loop.out.items c.loop-test.false) ∙ c.loop.invariant
