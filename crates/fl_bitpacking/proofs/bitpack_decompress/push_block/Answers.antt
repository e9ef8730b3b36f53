use Rattle.std.proofs.Common.{◌≡◌, ◌≤◌, ◌<◌, ◌+◌, ◌-◌, ◌++◌, ◌∙◌, ℕ, length, drop, subst, ap, sym, arith, length-append, length-take, length-drop}
use Rattle.fl_bitpacking.specs.Blocks.{blocks_of, item_of_blocks, value_at}
use Rattle.fl_bitpacking.proofs.BlockSums.{item_plus_none}
use Rattle.fl_bitpacking.proofs.Slices.{value_added, value_before, vec_grown}
use Rattle.fl_bitpacking.proofs.bitpack_decompress.push_block.Goals as goal

pub returns-clause-before : goal.returns-clause-before
returns-clause-before g c i h =
    let old = c.args.items.now in
    let new = c.decode_block.new.items in
    let from : c.places-from.result.0 ≡ old.len = c.places-from.ensures.from ∙ (sym c.requires.begun ∙ sym old.ok.0) in
    let order : old.len ≤ c.places-from.result.1 = let below = c.places-from.ensures.order in omega arith in
    let grown = vec_grown c.resize.new.self.len c.places-from.result.1 c.places-from.result.0 old.len c.zero.result old.items c.deref_mut.result.now new _ _ old.ok.0 from order c.in_ok-resize.ensures.len (c.deref_mut.ensures.value ∙ c.in_ok-resize.ensures.items) c.decode_block.auto.items in
    ap (λ xs. value_at g.T.Number.value xs i) grown ∙ value_before g.T.Number.value old.items new i h

pub returns-clause-part : goal.returns-clause-part
returns-clause-part g c i h =
    let old = c.args.items.now in
    let new = c.decode_block.new.items in
    let blocks = blocks_of c.args.blocks.widths in
    let offset = c.args.blocks.offset in
    let item = λ (p : ℕ). item_of_blocks g.T.NativePType.PTYPE blocks c.args.reader.now.bytes p in
    let from : c.places-from.result.0 ≡ old.len = c.places-from.ensures.from ∙ (sym c.requires.begun ∙ sym old.ok.0) in
    let order : old.len ≤ c.places-from.result.1 = let below = c.places-from.ensures.order in omega arith in
    let grown = vec_grown c.resize.new.self.len c.places-from.result.1 c.places-from.result.0 old.len c.zero.result old.items c.deref_mut.result.now new _ _ old.ok.0 from order c.in_ok-resize.ensures.len (c.deref_mut.ensures.value ∙ c.in_ok-resize.ensures.items) c.decode_block.auto.items in
    let inside : length old.items + i < length (old.items ++ new) = subst (λ xs. length old.items + i < length xs) grown h in
    let sum = length-append old.items new in
    let kept = c.decode_block.auto.items in
    ap (λ xs. value_at g.T.Number.value xs (length old.items + i)) grown ∙ (value_added g.T.Number.value old.items new i ∙ (c.decode_block.ensures.items i (omega arith)
    ∙ (item_plus_none g.T.NativePType.PTYPE blocks c.args.reader.now.bytes _ ∙ ap (λ (n : ℕ). item (offset + (n + i))) (sym c.requires.begun))))

pub returns-clause-long : goal.returns-clause-long
returns-clause-long g c =
    let old = c.args.items.now in
    let new = c.decode_block.new.items in
    let row = c.deref_mut.result.now in
    let from : c.places-from.result.0 ≡ old.len = c.places-from.ensures.from ∙ (sym c.requires.begun ∙ sym old.ok.0) in
    let order : old.len ≤ c.places-from.result.1 = let below = c.places-from.ensures.order in omega arith in
    let grown = vec_grown c.resize.new.self.len c.places-from.result.1 c.places-from.result.0 old.len c.zero.result old.items row new _ _ old.ok.0 from order c.in_ok-resize.ensures.len (c.deref_mut.ensures.value ∙ c.in_ok-resize.ensures.items) c.decode_block.auto.items in
    let taken = length-take (length row - c.places-from.result.0) (drop c.places-from.result.0 row) in
    let rest = length-drop c.places-from.result.0 row in
    let kept = c.decode_block.auto.items in
    let counted = old.ok.0 in
    let long = c.deref_mut.ensures.len in
    let end_is = c.in_ok-resize.ensures.len in
    let to = c.places-from.ensures.to in
    ap length grown ∙ (length-append old.items new ∙ omega arith)
