use Rattle.std.proofs.Common.{◌≡◌, ◌∙◌, ◌+◌, ◌-◌, ◌*◌, length, take, drop, ap, arith}
use Rattle.fl_bitpacking.proofs.Slices.{grown_front, vec_written}
use Rattle.fl_bitpacking.proofs.bitpack_compress.push_block.Goals as goal

pub returns-clause-before : goal.returns-clause-before
returns-clause-before g c a b h =
    let old = c.args.bytes.now.items in
    let start = c.len-start.ensures in
    let kept = c.pack_at.auto.bytes in
    let long = c.deref_mut.ensures.len in
    let same : length c.pack_at.new.bytes ≡ c.resize.new.self.len = omega arith in
    rw (vec_written c.resize.new.self.len c.pack_at.new.bytes c.resize.new.self.items same)
    (c.pack_at.ensures.before a b (omega arith) ∙ ap (λ bytes. take (b - a) (drop a bytes)) (c.deref_mut.ensures.value ∙ c.in_ok-resize.ensures.items) ∙ grown_front a b (c.len-start.result + 128 * c.args.width) old _ h (omega arith))

pub returns-clause-long : goal.returns-clause-long
returns-clause-long g c =
    let old = c.args.bytes.now in
    let counted = old.ok.0 in
    let start = c.len-start.ensures in
    let kept = c.pack_at.auto.bytes in
    let long = c.deref_mut.ensures.len in
    let grown = c.in_ok-resize.ensures.len in
    let same : length c.pack_at.new.bytes ≡ c.resize.new.self.len = omega arith in
    rw (vec_written c.resize.new.self.len c.pack_at.new.bytes c.resize.new.self.items same) (omega arith)

pub returns-clause-packed : goal.returns-clause-packed
returns-clause-packed g c =
    let old = c.args.bytes.now in
    let counted = old.ok.0 in
    let start = c.len-start.ensures in
    let kept = c.pack_at.auto.bytes in
    let long = c.deref_mut.ensures.len in
    let same : length c.pack_at.new.bytes ≡ c.resize.new.self.len = omega arith in
    let place : length old.items ≡ c.len-start.result = omega arith in
    rw (vec_written c.resize.new.self.len c.pack_at.new.bytes c.resize.new.self.items same, place) c.pack_at.ensures.packed
