use Rattle.std.proofs.Common.{◌≡◌, ◌≤◌, ◌+◌, ◌-◌, ◌∙◌, None, Some, get_or, length, drop, ap, arith, length-append, length-take, length-drop}
use Rattle.fl_bitpacking.specs.Blocks.{value_at}
use Rattle.fl_bitpacking.proofs.Slices.{value_added, value_before, vec_grown}
use Rattle.fl_array.proofs.reader.to_primitive.push_items.Goals as goal

pub returns-clause-before : goal.returns-clause-before
returns-clause-before g c i h =
    let old = c.args.items.now in
    let new = c.read.new.items in
    let from : c.len-from.result ≡ old.len = c.len-from.ensures in
    let order : old.len ≤ c.args.to = let order = c.requires.order in let is = old.ok.0 in omega arith in
    let grown = vec_grown c.resize.new.self.len c.args.to c.len-from.result old.len c.zero.result old.items c.deref_mut.result.now new _ _ old.ok.0 from order c.in_ok-resize.ensures.len (c.deref_mut.ensures.value ∙ c.in_ok-resize.ensures.items) c.read.auto.items in
    ap (λ xs. value_at g.T.Number.value xs i) grown ∙ value_before g.T.Number.value old.items new i h

pub returns-clause-part : goal.returns-clause-part
returns-clause-part g c i z h e =
    let old = c.args.items.now in
    let new = c.read.new.items in
    let from : c.len-from.result ≡ old.len = c.len-from.ensures in
    let order : old.len ≤ c.args.to = let order = c.requires.order in let is = old.ok.0 in omega arith in
    let grown = vec_grown c.resize.new.self.len c.args.to c.len-from.result old.len c.zero.result old.items c.deref_mut.result.now new _ _ old.ok.0 from order c.in_ok-resize.ensures.len (c.deref_mut.ensures.value ∙ c.in_ok-resize.ensures.items) c.read.auto.items in
    let taken = length-take (length c.deref_mut.result.now - c.len-from.result) (drop c.len-from.result c.deref_mut.result.now) in
    let rest = length-drop c.len-from.result c.deref_mut.result.now in
    let kept = c.read.auto.items in
    let long = c.deref_mut.ensures.len in
    let end_is = c.in_ok-resize.ensures.len in
    let counted = old.ok.0 in
    let item : get_or c.args.reader.now.column.items (c.len-from.result + i) None ≡ Some z = ap (λ n. get_or c.args.reader.now.column.items (n + i) None) (c.len-from.ensures ∙ old.ok.0) ∙ e in
    ap (λ xs. value_at g.T.Number.value xs (length old.items + i)) grown ∙ (value_added g.T.Number.value old.items new i ∙ c.read.ensures i z (omega arith) item)

pub returns-clause-long : goal.returns-clause-long
returns-clause-long g c =
    let old = c.args.items.now in
    let new = c.read.new.items in
    let row = c.deref_mut.result.now in
    let from : c.len-from.result ≡ old.len = c.len-from.ensures in
    let order : old.len ≤ c.args.to = let order = c.requires.order in let is = old.ok.0 in omega arith in
    let grown = vec_grown c.resize.new.self.len c.args.to c.len-from.result old.len c.zero.result old.items row new _ _ old.ok.0 from order c.in_ok-resize.ensures.len (c.deref_mut.ensures.value ∙ c.in_ok-resize.ensures.items) c.read.auto.items in
    let taken = length-take (length row - c.len-from.result) (drop c.len-from.result row) in
    let rest = length-drop c.len-from.result row in
    let kept = c.read.auto.items in
    let long = c.deref_mut.ensures.len in
    let end_is = c.in_ok-resize.ensures.len in
    let counted = old.ok.0 in
    ap length grown ∙ (length-append old.items new ∙ omega arith)
