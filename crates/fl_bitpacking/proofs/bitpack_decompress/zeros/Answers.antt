use Rattle.std.proofs.Common.{◌∙◌, sym, refl, arith}
use Rattle.fl_bitpacking.proofs.Natives.{zero_read}
use Rattle.fl_bitpacking.proofs.Slices.{value_read}
use Rattle.fl_bitpacking.proofs.bitpack_decompress.zeros.Goals as goal

pub returns-clause-items : goal.returns-clause-items
returns-clause-items g c i h =
    let long = c.in_ok-resize.ensures.len in
    let none = c.new-items.ensures.len in
    let counted = c.resize.new.self.ok.0 in
    value_read g.T.Number.value c.resize.new.self.items i c.zero.result (omega arith) (c.in_ok-resize.ensures.by_index.1 i c.zero.result refl (omega arith) h)
    ∙ (c.zero.ensures ∙ sym (zero_read g.T.NativePType.PTYPE))
