use Rattle.std.proofs.Common.{◌≡◌, ◌+◌, ◌-◌, ◌++◌, ◌∷◌, [], bit_and, ap, sym, ◌∙◌, arith, append_assoc, append-nil}
use Rattle.std.specs.Int.{w64, trailing_zeros}
use Rattle.std.specs.List.{range_with_len}
use Rattle.std.proofs.lemmas.List.FromFn.{get_or-range_with_len, length-range_with_len}
use Rattle.std.proofs.lemmas.Nat.Bits.{bit_at-trailing_zeros}
use Rattle.fl_types.specs.Bits.{bit_of_word, kept, tabulate}
use Rattle.fl_types.proofs.KeptLaws.{bit_stays, bit_true}
use Rattle.fl_column.proofs.FilterLaws.{kept_by_zero, word_first}
use Rattle.fl_scan.proofs.indices.push_set.Goals as goal

pub overflow_add-position : goal.overflow_add-position
overflow_add-position c =
    let rest = c.loop-rest.rest in
    let place = bit_at-trailing_zeros w64 rest (omega arith) (omega arith) in
    let within = c.loop-rest.invariant.inside (trailing_zeros w64 rest) (bit_true rest (trailing_zeros w64 rest) place.1) in
    omega arith

pub loop-rest-preserved : goal.loop-rest-preserved
loop-rest-preserved c =
    let rest = c.loop-rest.rest in
    let places = range_with_len c.args.start 64 in
    let t = trailing_zeros w64 rest in
    let place = bit_at-trailing_zeros w64 rest (omega arith) (omega arith) in
    let size = length-range_with_len c.args.start 64 in
    let first = word_first places rest t 0 place.0 (omega arith) place.1 place.2 in
    let here = get_or-range_with_len c.args.start 64 t 0 place.0 in
    let more = kept (tabulate (bit_of_word (bit_and rest (rest - 1))) 64) places in
    record {
      inside = λ j set. c.loop-rest.invariant.inside j (bit_stays rest t j place.1 place.2 set);
      items = ap (λ l. l ++ more) c.in_ok-push.ensures.items ∙ append_assoc c.loop-rest.positions.items ((c.args.start + t) ∷ []) more
          ∙ ap (λ x. c.loop-rest.positions.items ++ x ∷ more) (sym here) ∙ ap (λ l. c.loop-rest.positions.items ++ l) (sym first) ∙ c.loop-rest.invariant.items;
    }

pub returns : goal.returns
returns c =
    let none : c.loop-rest.rest ≡ 0 = omega arith in
    let found = c.loop-rest.positions.items in
    let places = range_with_len c.args.start 64 in
    sym (append-nil found) ∙ ap (λ l. found ++ l) (sym (ap (λ n. kept (tabulate (bit_of_word n) 64) places) none ∙ kept_by_zero places)) ∙ c.loop-rest.invariant.items
