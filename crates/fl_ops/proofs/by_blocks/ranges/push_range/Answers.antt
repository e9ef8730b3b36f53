use Rattle.std.proofs.Common.{◌≡◌, ◌<◌, ◌≤◌, ◌+◌, ◌-◌, ◌∙◌, length, drop, ap, arith, length-append, length-take, length-drop}
use Rattle.fl_bitpacking.specs.Blocks.{value_at}
use Rattle.fl_bitpacking.proofs.Slices.{value_added, value_before, vec_grown}
use Rattle.fl_ops.proofs.RangeReads.{fits_within}
use Rattle.fl_ops.proofs.by_blocks.ranges.push_range.Goals as goal

pub returns-clause-before : goal.returns-clause-before
returns-clause-before g c i h =
    let old = c.args.slots.now in
    let new = c.read.new.items in
    let end = c.len-from.result + c.args.count in
    let from : c.len-from.result ≡ old.len = c.len-from.ensures in
    let order : old.len ≤ end = omega (arith, from) in
    let grown = vec_grown c.resize.new.self.len end c.len-from.result old.len c.zero.result old.items c.deref_mut.result.now new _ _ old.ok.0 from order c.in_ok-resize.ensures.len (c.deref_mut.ensures.value ∙ c.in_ok-resize.ensures.items) c.read.auto.items in
    ap (λ xs. value_at g.T.Number.value xs i) grown ∙ value_before g.T.Number.value old.items new i h

pub returns-clause-part : goal.returns-clause-part
returns-clause-part g c i z h e =
    let old = c.args.slots.now in
    let new = c.read.new.items in
    let end = c.len-from.result + c.args.count in
    let from : c.len-from.result ≡ old.len = c.len-from.ensures in
    let order : old.len ≤ end = omega (arith, from) in
    let grown = vec_grown c.resize.new.self.len end c.len-from.result old.len c.zero.result old.items c.deref_mut.result.now new _ _ old.ok.0 from order c.in_ok-resize.ensures.len (c.deref_mut.ensures.value ∙ c.in_ok-resize.ensures.items) c.read.auto.items in
    let taken = length-take (length c.deref_mut.result.now - c.len-from.result) (drop c.len-from.result c.deref_mut.result.now) in
    let rest = length-drop c.len-from.result c.deref_mut.result.now in
    let kept = c.read.auto.items in
    let long = c.deref_mut.ensures.len in
    let end_is = c.in_ok-resize.ensures.len in
    let counted = old.ok.0 in
    ap (λ xs. value_at g.T.Number.value xs (length old.items + i)) grown ∙ (value_added g.T.Number.value old.items new i ∙ c.read.ensures i z (omega arith) e)

pub returns-clause-long : goal.returns-clause-long
returns-clause-long g c =
    let old = c.args.slots.now in
    let new = c.read.new.items in
    let row = c.deref_mut.result.now in
    let end = c.len-from.result + c.args.count in
    let from : c.len-from.result ≡ old.len = c.len-from.ensures in
    let order : old.len ≤ end = omega (arith, from) in
    let grown = vec_grown c.resize.new.self.len end c.len-from.result old.len c.zero.result old.items row new _ _ old.ok.0 from order c.in_ok-resize.ensures.len (c.deref_mut.ensures.value ∙ c.in_ok-resize.ensures.items) c.read.auto.items in
    let taken = length-take (length row - c.len-from.result) (drop c.len-from.result row) in
    let rest = length-drop c.len-from.result row in
    let kept = c.read.auto.items in
    let long = c.deref_mut.ensures.len in
    let end_is = c.in_ok-resize.ensures.len in
    let counted = old.ok.0 in
    ap length grown ∙ (length-append old.items new ∙ omega arith)

pub read-requires-clause-range : goal.read-requires-clause-range
read-requires-clause-range g c =
    let old = c.args.slots.now in
    let row = c.deref_mut.result.now in
    let some : 0 < c.args.count = omega arith in
    let inside = fits_within (length c.args.reader.now.column.items) c.args.start c.args.count c.requires.range some in
    let from : c.len-from.result ≡ old.len = c.len-from.ensures in
    let taken = length-take (length row - c.len-from.result) (drop c.len-from.result row) in
    let rest = length-drop c.len-from.result row in
    let long = c.deref_mut.ensures.len in
    let end_is = c.in_ok-resize.ensures.len in
    let counted = old.ok.0 in
    omega arith
