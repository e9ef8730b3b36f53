use Rattle.std.proofs.Common.{◌≡◌, ◌<◌, ◌+◌, ◌-◌, ◌^◌, ◌++◌, ◌∙◌, pos, Some, None, cond, get_or, length, map, take, true, false, bit_and, ap, arith, refl, subst, sym}
use Rattle.std.proofs.lemmas.List.{get_or-map, take_all}
use Rattle.std.specs.Int.{trailing_zeros, w64}
use Rattle.fl_types.specs.Bits.{bit_of_word}
use Rattle.fl_types.proofs.Refused.{no_value}
use Rattle.fl_patches.specs.PatchParts.{AreGathered}
use Rattle.fl_patches.proofs.Marked.{below_lowest, left_bits, lowest_set, marked_first, marked_next, next_fits, next_lowest, none_lowest}
use Rattle.fl_patches.proofs.gathering.Exceptions.push_marked.Goals as goal

pub loop-rest-init : goal.loop-rest-init
loop-rest-init g c = record {
  left = λ j h. refl;
  gathered = λ before part len few inside marked so.
      (let marks = c.args.marks in
      marked_first _ _ before part (trailing_zeros w64 marks)
      (λ j low within. marked j within ∙ ap (λ b. cond b (Some (get_or (map g.T.Number.value c.args.items.now) (c.args.start + j) (pos 0))) None) (below_lowest marks j (omega arith) low)) so);
}

pub overflow_add-place : goal.overflow_add-place
overflow_add-place g c =
    let rest = c.loop-rest.rest in
    let some : 0 < rest = omega arith in
    let fits : rest < 2 ^ 64 = omega arith in
    let t = trailing_zeros w64 rest in
    let set : bit_of_word c.args.marks t ≡ true = sym (c.loop-rest.invariant.left t (omega arith)) ∙ lowest_set rest some fits in
    let within = c.requires t set in
    omega arith

pub bounds-items-place : goal.bounds-items-place
bounds-items-place g c =
    let rest = c.loop-rest.rest in
    let some : 0 < rest = omega arith in
    let fits : rest < 2 ^ 64 = omega arith in
    let t = trailing_zeros w64 rest in
    let set : bit_of_word c.args.marks t ≡ true = sym (c.loop-rest.invariant.left t (omega arith)) ∙ lowest_set rest some fits in
    c.requires t set

pub offset_bounds-items-place : goal.offset_bounds-items-place
offset_bounds-items-place g c =
    let rest = c.loop-rest.rest in
    let some : 0 < rest = omega arith in
    let fits : rest < 2 ^ 64 = omega arith in
    let t = trailing_zeros w64 rest in
    let set : bit_of_word c.args.marks t ≡ true = sym (c.loop-rest.invariant.left t (omega arith)) ∙ lowest_set rest some fits in
    let within = c.requires t set in
    omega arith

pub loop-rest-preserved : goal.loop-rest-preserved
loop-rest-preserved g c =
    let value = g.T.Number.value in
    let items = c.args.items.now in
    let start = c.args.start in
    let rest = c.loop-rest.rest in
    let next = bit_and rest (rest - 1) in
    let some : 0 < rest = omega arith in
    let fits : rest < 2 ^ 64 = omega arith in
    let t = trailing_zeros w64 rest in
    let order = next_lowest rest some fits in
    let set : bit_of_word c.args.marks t ≡ true = sym (c.loop-rest.invariant.left t (omega arith)) ∙ lowest_set rest some fits in
    let place = c.requires t set in
    record {
      left = λ j h. left_bits rest j some fits (omega arith) ∙ c.loop-rest.invariant.left j (omega arith);
      gathered = λ before part len few inside marked so.
          (let within : t < length part = inside t set in
          let read : get_or (map value items) (start + t) (pos 0) ≡ value c.index-items-place.result = get_or-map value items (start + t) c.index-items-place.result (pos 0) place ∙ ap value (sym c.index-items-place.is) in
          let here : get_or part t None ≡ Some (value c.index-items-place.result) = marked t within ∙ (ap (λ b. cond b (Some (get_or (map value items) (start + t) (pos 0))) None) set ∙ ap (λ z. Some z) read) in
          marked_next _ _ _ _ before part (start + t) t (trailing_zeros w64 next) (value c.index-items-place.result) (omega arith) within here order
          (λ j past low inner.
          let clear : bit_of_word c.args.marks j ≡ false = sym (c.loop-rest.invariant.left j (omega arith)) ∙ (sym (left_bits rest j some fits (omega arith)) ∙ below_lowest next j (next_fits rest fits) low) in
          marked j inner ∙ ap (λ b. cond b (Some (get_or (map value items) (start + j) (pos 0))) None) clear)
          c.in_ok-push.ensures (c.loop-rest.invariant.gathered before part len few inside marked so));
    }

pub returns : goal.returns
returns g c = λ before part len few inside marked so.
    let none : c.loop-rest.rest ≡ 0 = omega arith in
    let whole : take (trailing_zeros w64 c.loop-rest.rest) part ≡ part = rw (none, none_lowest) (take_all 64 part few) in
    subst (λ ys. AreGathered c.loop-rest.self.places.items (map g.T.Number.value c.loop-rest.self.values.items) (before ++ ys)) whole (c.loop-rest.invariant.gathered before part len few inside marked so)

pub returns-in_err-push : goal.returns-in_err-push
returns-in_err-push g c = no_value _ _ c.from_residual.result c.from_residual.ensures.1
