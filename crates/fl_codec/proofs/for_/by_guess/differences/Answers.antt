use Rattle.std.proofs.Common.{◌≡◌, ◌+◌, ◌*◌, ◌++◌, ◌∙◌, ℕ, ℤ, None, ap, arith, get_or, length, map, min, option_map, refl, sym}
use Rattle.std.proofs.lemmas.List.{map-append}
use Rattle.fl_types.specs.Bits.{between, tabulate}
use Rattle.fl_types.specs.Validities.{items_of}
use Rattle.fl_codec.specs.FoRColumns.{least_by, least_valid, minus_reference, reading, turned}
use Rattle.fl_codec.proofs.JoinedLeasts.{least_of_both}
use Rattle.fl_codec.proofs.OrderLaws.{least_of_order}
use Rattle.fl_codec.proofs.ReferenceLaws.{between_whole, length-items_read, length-table, length_of_values}
use Rattle.fl_codec.proofs.WithNulls.{between_join}
use Rattle.fl_codec.proofs.WithoutNulls.{table_of_items}
use Rattle.fl_codec.proofs.for_.by_guess.differences.Goals as goal

pub push_chunk-requires-clause-start : goal.push_chunk-requires-clause-start
push_chunk-requires-clause-start g c =
    let value = g.T.Number.value in
    let items = items_of c.args.validity.now (map value c.args.items.now) in
    let slot : ℕ → ℤ = λ i. minus_reference g.T.NativePType.PTYPE (value c.args.guess) (get_or items i None) in
    let starts : min (1024 * c.loop-k.k) (length c.args.items.now) ≡ 1024 * c.loop-k.k = omega arith in
    length_of_values value c.loop-k.slots.items (tabulate slot (min (1024 * c.loop-k.k) (length c.args.items.now))) c.loop-k.invariant.slots ∙ (length-table slot (min (1024 * c.loop-k.k) (length c.args.items.now)) ∙ starts)

pub loop-k-preserved : goal.loop-k-preserved
loop-k-preserved g c =
    let value = g.T.Number.value in
    let turn = option_map (turned g.T.NativePType.PTYPE (value c.origin_of-origin.result)) in
    let items = items_of c.args.validity.now (map value c.args.items.now) in
    let slot : ℕ → ℤ = λ i. minus_reference g.T.NativePType.PTYPE (value c.args.guess) (get_or items i None) in
    let k = c.loop-k.k in
    let end = c.chunk_end-end.result in
    let starts : min (1024 * k) (length c.args.items.now) ≡ 1024 * k = omega arith in
    let ended : min (1024 * (k + 1)) (length c.args.items.now) ≡ end = sym c.chunk_end-end.ensures in
    let before : option_map value c.loop-k.least ≡ least_valid (map turn (between 0 (1024 * k) items)) = c.loop-k.invariant.least ∙ ap (λ n. least_valid (map turn (between 0 n items))) starts in
    let joined : map turn (between 0 (1024 * k) items) ++ map turn (between (1024 * k) end items) ≡ map turn (between 0 end items) = sym (map-append turn (between 0 (1024 * k) items) (between (1024 * k) end items)) ∙ ap (map turn) (between_join items 0 (1024 * k) end (omega arith) (omega arith)) in
    record {
      least = c.lesser-least.ensures ∙ (least_of_both (option_map value c.loop-k.least) (option_map value c.least_turned_between-here.result) (map turn (between 0 (1024 * k) items)) (map turn (between (1024 * k) end items)) before c.least_turned_between-here.ensures
          ∙ (ap least_valid joined ∙ ap (λ n. least_valid (map turn (between 0 n items))) (sym ended)));
      slots = c.in_ok-push_chunk.ensures slot (λ i above below. refl) (rw starts at c.loop-k.invariant.slots);
    }

pub returns-then-is_guessed-clause-least : goal.returns-then-is_guessed-clause-least
returns-then-is_guessed-clause-least g c =
    let value = g.T.Number.value in
    let t = g.T.NativePType.PTYPE in
    let items = items_of c.args.validity.now (map value c.args.items.now) in
    let long : length items ≡ length c.args.items.now = length-items_read value c.args.validity.now c.args.items.now c.requires.covers in
    let all : min (1024 * c.loop-k.k) (length c.args.items.now) ≡ length c.args.items.now = omega arith in
    let turn = option_map (turned t (value c.origin_of-origin.result)) in
    let least : option_map value c.loop-k.least ≡ least_valid (map turn (between 0 (length c.args.items.now) items)) = c.loop-k.invariant.least ∙ ap (λ n. least_valid (map turn (between 0 n items))) all in
    let found = least_of_order c.args.order t c.args.validity.now (map value c.args.items.now) 0 (length c.args.items.now) (option_map value c.loop-k.least) c.requires.fit (rw c.origin_of-origin.ensures at least) in
    sym (ap (least_by (reading c.args.order t)) (between_whole items (length c.args.items.now) long))
    ∙ (sym found ∙ (sym (rw c.origin_of-origin.ensures at c.turned.ensures) ∙ c.is_guessed.ensures c.if-is_guessed.true))

pub returns-then-is_guessed-clause-slots : goal.returns-then-is_guessed-clause-slots
returns-then-is_guessed-clause-slots g c =
    let value = g.T.Number.value in
    let items = items_of c.args.validity.now (map value c.args.items.now) in
    let each : length items ≡ length c.args.items.now = length-items_read value c.args.validity.now c.args.items.now c.requires.covers in
    let all : min (1024 * c.loop-k.k) (length c.args.items.now) ≡ length items = omega arith in
    c.loop-k.invariant.slots ∙ table_of_items (minus_reference g.T.NativePType.PTYPE (value c.args.guess)) items _ None all
