use Rattle.std.proofs.Common.{◌≡◌, ◌∙◌, ℕ, ◌<◌, Ok, length, get_or, ap, sym, arith}
use Rattle.fl_serde.proofs.LeafLaws.{bytes_written, lent_whole}
use Rattle.fl_serde.proofs.bit_bytes.bitmap_of.Goals as goal

pub returns : goal.returns
returns c =
    let bitmap = c.write_bits.new.bitmap in
    let items = c.resize.new.self.items in
    let count = c.bitmap_len.ensures in
    let bits = c.len.ensures in
    let kept = c.write_bits.auto.bitmap in
    let long : length bitmap ≡ c.resize.new.self.len = omega (arith, c.in_ok-resize.ensures.len, c.deref_mut.ensures.len) in
    let even : length items ≡ c.resize.new.self.len = omega (arith, c.resize.new.self.ok) in
    let whole = lent_whole bitmap items c.resize.new.self.len long even in
    let small : (k : ℕ) → get_or bitmap k 0 < 256 = λ k. rw (sym whole, ← c.deref.ensures.value) (c.prove_bytes.ensures k) in
    ap Ok (bytes_written bitmap c.args.bits.now (omega (arith, c.in_ok-resize.ensures.len)) small c.write_bits.ensures ∙ sym whole)
