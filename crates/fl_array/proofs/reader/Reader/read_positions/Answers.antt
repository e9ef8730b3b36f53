use Rattle.std.proofs.Common.{◌+◌, ◌-◌, ◌%◌, drop, length-drop, length-take, arith}
use Rattle.fl_array.proofs.BlockTests.{placed}
use Rattle.fl_array.proofs.reader.Reader.read_positions.Goals as goal

pub returns : goal.returns
returns g c i z inside at e =
    let d = c.args.self.now in
    let xs = c.args.block.now in
    let from = c.places-from.result.0 in
    let to = c.places-from.result.1 in
    let low = c.saturating_sub-low.result in
    let from_is = c.places-from.ensures.start in
    let to_is = c.places-from.ensures.end in
    let order = c.places-from.ensures.order in
    let low_is = c.saturating_sub-low.ensures in
    let offset_is = c.offset.ensures.offset in
    let near = c.offset.ensures.low in
    let taken = length-take (low + (to - from) - low) (drop low xs) in
    let rest = length-drop low xs in
    let kept = c.read_items.auto.items in
    let wide = c.requires.long in
    placed g.T.Number.value d.column xs c.read_items.new.items _ from low ((d.offset + i) % 1024) i z (omega arith) (omega arith) (omega arith) (omega arith) (λ k y below f. c.read_items.ensures k y (omega arith) f) e
