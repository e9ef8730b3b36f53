use Rattle.std.proofs.Common.{◌≡◌, ◌+◌, ◌-◌, ◌∙◌, arith, length}
use Rattle.fl_codec.proofs.WithoutNulls.{grown_written}
use Rattle.fl_codec.proofs.for_.without_nulls.push_differences.Goals as goal

pub returns : goal.returns
returns g c =
    let counted = c.args.slots.now.ok.0 in
    let start_is : c.len-start.result ≡ length c.args.slots.now.items = omega (arith, c.len-start.ensures) in
    let long : length c.deref_mut.result.now ≡ c.len-start.result + length c.args.items.now = omega (arith, c.deref_mut.ensures.len, c.in_ok-resize.ensures.len) in
    let kept : length c.subtract.new.slots ≡ (c.len-start.result + length c.args.items.now) - c.len-start.result = omega (arith, c.subtract.auto.slots) in
    grown_written g.T.Number.value _ c.resize.new.self.len c.len-start.result (c.len-start.result + length c.args.items.now) c.args.slots.now.items _ c.deref_mut.result.now c.subtract.new.slots _ _
    start_is (omega arith) c.in_ok-resize.ensures.len kept (c.deref_mut.ensures.value ∙ c.in_ok-resize.ensures.items) c.subtract.ensures
