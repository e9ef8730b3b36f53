use Rattle.std.proofs.Common.{◌≡◌, ◌∙◌, ◌&&◌, false, rules, true}
use Rattle.fl_types.specs.Types.{either_nullable}
use Rattle.fl_types.specs.Validities.{nullability_of}
use Rattle.fl_column.specs.Selections.{is_full}
use Rattle.fl_column.proofs.ListLaws.{and_first, and_second}
use Rattle.fl_ops.proofs.PickedItems.{bits_taken, full_taken}
use Rattle.fl_ops.proofs.by_blocks.take.named_validity.Goals as goal

pub returns-then-are_full-clause-validity : goal.returns-then-are_full-clause-validity
returns-then-are_full-clause-validity g c =
    let v = c.args.validity.now in
    let w = c.validity-nulls.result.now in
    let both : (is_full v && is_full w) ≡ true = cc (c.if-are_full.ensures, c.if-are_full.true) in
    let either : c.or-nullability.result ≡ either_nullable (nullability_of v) (nullability_of w) = cc (c.or-nullability.ensures, c.nullability.ensures, c.nullability-then-are_full.ensures) in
    rw c.from.ensures (full_taken v w c.args.indices.now c.args.reader.now.column c.or-nullability.result (and_first (is_full v) (is_full w) both) (and_second (is_full v) (is_full w) both) c.requires.validity c.validity-nulls.ensures c.requires.range either)

pub returns-clause-validity : goal.returns-clause-validity
returns-clause-validity g c =
    let v = c.args.validity.now in
    let w = c.validity-nulls.result.now in
    let either : (is_full v && is_full w) ≡ false = cc (c.if-are_full.ensures, c.if-are_full.false) in
    bits_taken c.args.validity.now c.validity-nulls.result.now c.in_ok-bits.bits c.args.indices.now c.args.reader.now.column either c.requires.validity c.validity-nulls.ensures (c.in_ok-bits.ensures.len ∙ c.len.ensures)
    (λ k h. let e = c.in_ok-bits.ensures.bits k (rw c.len.ensures h) in search rules)
