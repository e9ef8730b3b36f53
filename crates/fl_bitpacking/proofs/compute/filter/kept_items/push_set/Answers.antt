use Rattle.std.proofs.Common.{◌≡◌, ◌-◌, ◌++◌, ◌∷◌, [], bit_and, ap, sym, ◌∙◌, arith, append_assoc, append-nil}
use Rattle.std.specs.Int.{w64, trailing_zeros}
use Rattle.std.proofs.lemmas.Nat.Bits.{bit_at-trailing_zeros}
use Rattle.fl_types.specs.Bits.{bit_of_word, tabulate}
use Rattle.fl_column.specs.Operations.{kept}
use Rattle.fl_types.proofs.KeptLaws.{bit_stays, bit_true}
use Rattle.fl_column.proofs.FilterLaws.{kept_by_zero, room_left, word_first}
use Rattle.fl_bitpacking.proofs.compute.filter.kept_items.push_set.Goals as goal

pub bounds-items-rest : goal.bounds-items-rest
bounds-items-rest g c =
    let place = bit_at-trailing_zeros w64 c.loop-rest.rest (omega arith) (omega arith) in
    c.loop-rest.invariant.inside (trailing_zeros w64 c.loop-rest.rest) (bit_true c.loop-rest.rest (trailing_zeros w64 c.loop-rest.rest) place.1)

pub offset_bounds-items-rest : goal.offset_bounds-items-rest
offset_bounds-items-rest g c =
    let place = bit_at-trailing_zeros w64 c.loop-rest.rest (omega arith) (omega arith) in
    let within = c.loop-rest.invariant.inside (trailing_zeros w64 c.loop-rest.rest) (bit_true c.loop-rest.rest (trailing_zeros w64 c.loop-rest.rest) place.1) in
    omega arith

pub push_reserved-requires : goal.push_reserved-requires
push_reserved-requires g c =
    let rest = c.loop-rest.rest in
    let xs = c.args.items.now in
    let t = trailing_zeros w64 rest in
    let place = bit_at-trailing_zeros w64 rest (omega arith) (omega arith) in
    let within = c.loop-rest.invariant.inside t (bit_true rest t place.1) in
    let first = word_first xs rest t c.index-items-rest.result place.0 within place.1 place.2 in
    let all = kept (tabulate (bit_of_word c.args.word) 64) xs in
    let room = room_left c.loop-rest.taken.items _ c.args.taken.now.items all _ (ap (λ l. c.loop-rest.taken.items ++ l) (sym first) ∙ c.loop-rest.invariant.items) in
    omega (arith, room, c.requires.room, c.loop-rest.invariant.capacity, c.loop-rest.taken.ok, c.args.taken.now.ok)

pub loop-rest-preserved : goal.loop-rest-preserved
loop-rest-preserved g c =
    let rest = c.loop-rest.rest in
    let xs = c.args.items.now in
    let t = trailing_zeros w64 rest in
    let place = bit_at-trailing_zeros w64 rest (omega arith) (omega arith) in
    let within = c.loop-rest.invariant.inside t (bit_true rest t place.1) in
    let first = word_first xs rest t c.index-items-rest.result place.0 within place.1 place.2 in
    let more = kept (tabulate (bit_of_word (bit_and rest (rest - 1))) 64) xs in
    record {
      inside = λ j set. c.loop-rest.invariant.inside j (bit_stays rest t j place.1 place.2 set);
      items = ap (λ l. l ++ more) c.push_reserved.ensures.items ∙ append_assoc c.loop-rest.taken.items (c.index-items-rest.result ∷ []) more
          ∙ ap (λ x. c.loop-rest.taken.items ++ x ∷ more) c.index-items-rest.is ∙ ap (λ l. c.loop-rest.taken.items ++ l) (sym first) ∙ c.loop-rest.invariant.items;
      capacity = c.push_reserved.ensures.capacity ∙ c.loop-rest.invariant.capacity;
    }

pub returns : goal.returns
returns g c =
    let none : c.loop-rest.rest ≡ 0 = omega arith in
    let taken = c.loop-rest.taken.items in
    let xs = c.args.items.now in
    sym (append-nil taken) ∙ ap (λ l. taken ++ l) (sym (ap (λ n. kept (tabulate (bit_of_word n) 64) xs) none ∙ kept_by_zero xs)) ∙ c.loop-rest.invariant.items
