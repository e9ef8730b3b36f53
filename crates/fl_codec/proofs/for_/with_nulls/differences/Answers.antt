use Rattle.std.proofs.Common.{◌≡◌, ◌*◌, ◌∙◌, ℕ, ℤ, None, refl, ap, arith, get_or, length, map, min, sym}
use Rattle.fl_types.specs.Bits.{tabulate}
use Rattle.fl_types.specs.Validities.{items_of}
use Rattle.fl_codec.specs.FoRColumns.{minus_reference}
use Rattle.fl_codec.proofs.ReferenceLaws.{length-items_read, length-table, length_of_values}
use Rattle.fl_codec.proofs.WithoutNulls.{table_of_items}
use Rattle.fl_codec.proofs.for_.with_nulls.differences.Goals as goal

pub loop-k-preserved : goal.loop-k-preserved
loop-k-preserved g c =
    let value = g.T.Number.value in
    let items = items_of c.args.validity.now (map value c.args.items.now) in
    let slot : ℕ → ℤ = λ i. minus_reference g.T.NativePType.PTYPE (value c.args.reference) (get_or items i None) in
    let before : map value c.loop-k.slots.items ≡ tabulate slot (length c.loop-k.slots.items) = c.loop-k.invariant.slots ∙ ap (tabulate slot) (sym c.loop-k.invariant.long) in
    let made : map value c.push_differences.new.slots.items ≡ tabulate slot c.chunk_end.result = c.in_ok-push_differences.ensures slot (λ i above below. refl) before in
    record {
      slots = made ∙ ap (tabulate slot) c.chunk_end.ensures;
      long = length_of_values value c.push_differences.new.slots.items (tabulate slot c.chunk_end.result) made ∙ (length-table slot c.chunk_end.result ∙ c.chunk_end.ensures);
    }

pub returns-clause-slots : goal.returns-clause-slots
returns-clause-slots g c =
    let value = g.T.Number.value in
    let items = items_of c.args.validity.now (map value c.args.items.now) in
    let each : length items ≡ length c.args.items.now = length-items_read value c.args.validity.now c.args.items.now c.requires in
    let all : min (1024 * c.loop-k.k) (length c.args.items.now) ≡ length items = omega arith in
    c.loop-k.invariant.slots ∙ table_of_items (minus_reference g.T.NativePType.PTYPE (value c.args.reference)) items _ None all
