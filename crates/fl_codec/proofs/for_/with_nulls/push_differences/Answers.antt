use Rattle.std.proofs.Common.{◌≡◌, ◌<◌, ◌≤◌, ◌+◌, ◌-◌, ◌∙◌, ℕ, ℤ, None, ap, arith, get_or, length, map, sym}
use Rattle.fl_types.specs.Bits.{tabulate}
use Rattle.fl_types.specs.Validities.{items_of}
use Rattle.fl_codec.specs.FoRColumns.{minus_reference}
use Rattle.fl_codec.proofs.WithoutNulls.{grown_written, tables_join}
use Rattle.fl_codec.proofs.for_.with_nulls.push_differences.Goals as goal

pub returns : goal.returns
returns g c = λ slot same before.
    let value = g.T.Number.value in
    let items = items_of c.args.validity.now (map value c.args.items.now) in
    let added : ℕ → ℤ = λ j. minus_reference g.T.NativePType.PTYPE (value c.args.reference) (get_or items (c.len-start.result + j) None) in
    let counted = c.args.slots.now.ok.0 in
    let start_is : c.len-start.result ≡ length c.args.slots.now.items = omega (arith, c.len-start.ensures) in
    let long : length c.deref_mut.result.now ≡ c.args.end = omega (arith, c.deref_mut.ensures.len, c.in_ok-resize.ensures.len) in
    let kept : length c.subtract.new.slots ≡ c.args.end - c.len-start.result = omega (arith, c.subtract.auto.slots) in
    let from : (i : ℕ) → c.len-start.result ≤ i → i < c.args.end → slot i ≡ added (i - c.len-start.result) = λ i above below.
    (let place : i ≡ c.len-start.result + (i - c.len-start.result) = omega arith in
    same i (omega arith) below ∙ ap (λ k. minus_reference g.T.NativePType.PTYPE (value c.args.reference) (get_or items k None)) place) in
    tables_join slot added c.len-start.result c.args.end _ (map value c.args.slots.now.items) _ (omega (arith, c.requires.order)) (sym c.subtract.auto.slots ∙ kept) from (before ∙ ap (tabulate slot) (sym start_is))
    (grown_written value _ c.resize.new.self.len c.len-start.result c.args.end c.args.slots.now.items _ c.deref_mut.result.now c.subtract.new.slots _ _
    start_is (omega (arith, c.requires.order)) c.in_ok-resize.ensures.len kept (c.deref_mut.ensures.value ∙ c.in_ok-resize.ensures.items) c.subtract.ensures)
