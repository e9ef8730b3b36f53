use Rattle.std.proofs.Common.{◌≡◌, List, [], length, map, Some, sym, ap, ◌∙◌, arith, ℕ, refl}
use Rattle.std.specs.Prelude.{option_map, Option}
use Rattle.std.proofs.lemmas.List.{length-set, map-set, set_past, length-map}
use Rattle.fl_metadata.specs.Wire.{Payload}
use Rattle.fl_metadata.specs.WireReading.{seen}
use Rattle.fl_metadata.proofs.SchemaSteps.{after, none_left, some_left, after_starts, after_ends, after_passes, after_stops, after_wrong, after_next, keeps_limits}
use Rattle.fl_metadata.proofs.schema.Values.read.Goals as goal

pub loop-rest-init : goal.loop-rest-init
loop-rest-init c = record { whole = refl; same = after_starts c.args.schema.now c.args.bytes.now }

pub returns-in_default-clause-is : goal.returns-in_default-clause-is
returns-in_default-clause-is c = sym c.loop-rest.invariant.same ∙ after_stops c.args.schema.now (map (option_map seen) c.loop-rest.last) c.loop-rest.rest.now (some_left c.loop-rest.rest.now c.loop-rest-test.ensures) c.in_default.ensures.is

pub returns-then-not-takes-clause-is : goal.returns-then-not-takes-clause-is
returns-then-not-takes-clause-is c = sym c.loop-rest.invariant.same ∙ after_wrong c.args.schema.now (map (option_map seen) c.loop-rest.last) c.loop-rest.rest.now _ (some_left c.loop-rest.rest.now c.loop-rest-test.ensures) c.in-Some.ensures.is (cc)

pub loop-rest-preserved-then-tag-lt-TAGS : goal.loop-rest-preserved-then-tag-lt-TAGS
loop-rest-preserved-then-tag-lt-TAGS c =
    let noted = map-set (option_map seen) c.loop-rest.last c.in-Some.field.tag (Some c.in-Some.field.value) in
    let step = after_next c.args.schema.now (map (option_map seen) c.loop-rest.last) c.loop-rest.rest.now _ (some_left c.loop-rest.rest.now c.loop-rest-test.ensures) c.in-Some.ensures.is (cc) in
    record {
      whole = length-set c.loop-rest.last c.in-Some.field.tag (Some c.in-Some.field.value) ∙ c.loop-rest.invariant.whole;
      same = ap (λ (v : List (Option Payload)). after c.args.schema.now v c.in-Some.after.now) noted ∙ step ∙ c.loop-rest.invariant.same;
    }

pub loop-rest-preserved : goal.loop-rest-preserved
loop-rest-preserved c =
    let seven : length (map (option_map seen) c.loop-rest.last) ≡ 7 = length-map c.loop-rest.last (option_map seen) ∙ c.loop-rest.invariant.whole in
    let past = set_past (map (option_map seen) c.loop-rest.last) c.in-Some.field.tag (Some (seen c.in-Some.field.value)) (omega arith) in
    let step = after_next c.args.schema.now (map (option_map seen) c.loop-rest.last) c.loop-rest.rest.now _ (some_left c.loop-rest.rest.now c.loop-rest-test.ensures) c.in-Some.ensures.is (cc) in
    record {
      whole = c.loop-rest.invariant.whole;
      same = ap (λ (v : List (Option Payload)). after c.args.schema.now v c.in-Some.after.now) (sym past) ∙ step ∙ c.loop-rest.invariant.same;
    }

pub returns-then-are_allowed-clause-is : goal.returns-then-are_allowed-clause-is
returns-then-are_allowed-clause-is c =
    let none : c.loop-rest.rest.now ≡ [] = none_left c.loop-rest.rest.now c.loop-rest-test.ensures in
    sym c.loop-rest.invariant.same ∙ ap (λ (bytes : List ℕ). after c.args.schema.now (map (option_map seen) c.loop-rest.last) bytes) none ∙ after_ends c.args.schema.now (map (option_map seen) c.loop-rest.last) (cc)

pub returns-else-are_allowed-clause-is : goal.returns-else-are_allowed-clause-is
returns-else-are_allowed-clause-is c =
    let none : c.loop-rest.rest.now ≡ [] = none_left c.loop-rest.rest.now c.loop-rest-test.ensures in
    sym c.loop-rest.invariant.same ∙ ap (λ (bytes : List ℕ). after c.args.schema.now (map (option_map seen) c.loop-rest.last) bytes) none ∙ after_passes c.args.schema.now (map (option_map seen) c.loop-rest.last) (cc)

pub returns-then-are_allowed-clause-within : goal.returns-then-are_allowed-clause-within
returns-then-are_allowed-clause-within c = keeps_limits c.args.schema.now (map (option_map seen) c.loop-rest.last) (length-map c.loop-rest.last (option_map seen) ∙ c.loop-rest.invariant.whole) (cc)
