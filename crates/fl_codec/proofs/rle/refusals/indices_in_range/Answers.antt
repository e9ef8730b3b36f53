use Rattle.std.proofs.Common.{◌≡◌, ◌<◌, None, true, false, get_or, option_map, arith, ap, sym, ◌∙◌}
use Rattle.fl_column.proofs.ItemLaws.{length-items_of}
use Rattle.fl_column.proofs.ListLaws.{all_fails, all_from}
use Rattle.fl_codec.specs.Chunks.{chunk}
use Rattle.fl_codec.specs.Parts.{items_of_primitive}
use Rattle.fl_codec.specs.RunColumns.{is_run_index}
use Rattle.fl_codec.proofs.ForwardFillLaws.{below_next, length-chunk}
use Rattle.fl_codec.proofs.ReferenceLaws.{covered_read, length_of_values}
use Rattle.fl_codec.proofs.RunChecks.{chunk_item}
use Rattle.fl_codec.proofs.RunDecoding.{whole_chunk}
use Rattle.fl_codec.proofs.rle.refusals.indices_in_range.Goals as goal

pub returns-then-not-is_named : goal.returns-then-not-is_named
returns-then-not-is_named g c =
    let value = g.I.Number.value in
    let p = c.args.indices.now in
    let items = items_of_primitive p in
    let k = c.args.k in
    let q = c.loop-q.q in
    let h : q < 1024 = c.loop-q-test.true in
    let each = length-items_of p.validity p.slots c.validity-validity.ensures.covers in
    let full = whole_chunk items k (let room = c.requires.chunk in omega arith) in
    let item = chunk_item value p c.validity-validity.result.now c.as_slice-items.result.now k q (option_map value c.item_at.result) c.validity-validity.ensures.value c.as_slice-items.ensures h c.item_at.ensures in
    let fails : is_run_index c.args.count (get_or (chunk k items) q None) ≡ false = ap (is_run_index c.args.count) (sym item) ∙ sym c.if-not-is_named.ensures in
    sym (all_fails (is_run_index c.args.count) (chunk k items) q None (rw full h) fails)

pub loop-q-preserved : goal.loop-q-preserved
loop-q-preserved g c =
    let value = g.I.Number.value in
    let p = c.args.indices.now in
    let items = items_of_primitive p in
    let k = c.args.k in
    let q = c.loop-q.q in
    let item = chunk_item value p c.validity-validity.result.now c.as_slice-items.result.now k q (option_map value c.item_at.result) c.validity-validity.ensures.value c.as_slice-items.ensures c.loop-q-test.true c.item_at.ensures in
    below_next (λ j. is_run_index c.args.count (get_or (chunk k items) j None) ≡ true) q c.loop-q.invariant (ap (is_run_index c.args.count) (sym item) ∙ sym c.if-not-is_named.ensures)

pub returns : goal.returns
returns g c =
    let items = items_of_primitive c.args.indices.now in
    let few = length-chunk items c.args.k in
    let last = c.loop-q-test.false in
    sym (all_from (is_run_index c.args.count) (chunk c.args.k items) None (λ j h. c.loop-q.invariant j (omega arith)))

pub item_at-requires : goal.item_at-requires
item_at-requires g c =
    let p = c.args.indices.now in
    let long = length_of_values g.I.Number.value c.as_slice-items.result.now p.slots c.as_slice-items.ensures in
    let room = c.requires.chunk in
    let here = c.loop-q-test.true in
    record {
      covers = covered_read g.I.Number.value p c.validity-validity.result.now c.as_slice-items.result.now c.validity-validity.ensures.value c.validity-validity.ensures.covers c.as_slice-items.ensures;
      range = omega arith;
    }

pub overflow_mul-k : goal.overflow_mul-k
overflow_mul-k g c =
    let long = length_of_values g.I.Number.value c.as_slice-items.result.now c.args.indices.now.slots c.as_slice-items.ensures in
    let room = c.requires.chunk in
    omega arith

pub overflow_add-k : goal.overflow_add-k
overflow_add-k g c =
    let long = length_of_values g.I.Number.value c.as_slice-items.result.now c.args.indices.now.slots c.as_slice-items.ensures in
    let room = c.requires.chunk in
    let here = c.loop-q-test.true in
    omega arith

pub loop-q-init : goal.loop-q-init
loop-q-init g c j h = absurd (omega arith)
