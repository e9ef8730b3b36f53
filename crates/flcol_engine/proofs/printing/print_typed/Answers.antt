use Rattle.std.proofs.Common.{Ok, ap, arith, length, map, sym, ◌∙◌}
use Rattle.flcol_engine.proofs.LengthLemmas.{column_printed, written_back}
use Rattle.flcol_engine.proofs.printing.print_typed.Goals as goal

pub put_items-requires-clause-room : goal.put_items-requires-clause-room
put_items-requires-clause-room g c = c.deref_mut.ensures.len ∙ (c.in_ok-text.ensures ∙ c.in_ok-items_len.ensures.len)

pub returns : goal.returns
returns g c =
    let new = ap length c.put_items.ensures in
    let old = ap length c.deref_mut.ensures.value in
    let whole = written_back c.in_ok-text.text.len c.put_items.new.text c.in_ok-text.text.items (omega (arith, new, old, c.deref_mut.ensures.len, c.in_ok-text.ensures, c.in_ok-items_len.ensures.len)) (omega (arith, old, c.deref_mut.ensures.len)) in
    ap Ok (column_printed g.T.NativePType.PTYPE c.args.array.now.ptype c.validity-validity.result.now c.args.array.now.validity (map g.T.Number.value c.as_slice-slots.result.now) c.args.array.now.slots c.requires c.validity-validity.ensures.value c.as_slice-slots.ensures ∙ sym (whole ∙ c.put_items.ensures))
