use Rattle.std.proofs.Common.{◌≡◌, ◌∙◌, IsTrue, arith, length, sym, true}
use Rattle.std.proofs.Math.Path.{subst}
use Rattle.std.specs.Prelude.{option_map}
use Rattle.std.specs.Int.{int_max, int_min}
use Rattle.std.specs.List.{reduce}
use Rattle.fl_types.specs.Masks.{mask_len}
use Rattle.fl_types.specs.Types.{has_ptype, is_integer}
use Rattle.fl_types.specs.declared.dtype.DType.{DType}
use Rattle.fl_types.specs.Values.{integer_of}
use Rattle.fl_array.specs.Trees.{column}
use Rattle.fl_scan.specs.Sources.{column_of_source}
use Rattle.fl_scan.proofs.KeptAnswers.{answered_under}
use Rattle.fl_scan.proofs.SearchLaws.{integers_held, ptype_held}
use Rattle.fl_scan.proofs.selections.min_max_under.Goals as goal

pub extremes_typed-requires : goal.extremes_typed-requires
extremes_typed-requires c =
    let held = ptype_held (column c.args.array.now).dtype c.in-Primitive.ptype c.in-Primitive.field-1 (sym c.dtype.ensures ∙ c.in-Primitive.is) in
    subst (λ (d : DType). IsTrue (has_ptype c.in-Primitive.ptype d)) (sym c.in_ok-source.ensures.typed) held

pub returns-clause-least : goal.returns-clause-least
returns-clause-least c =
    let col = column c.args.array.now in
    let s = column_of_source c.in_ok-source.source in
    let m = c.args.mask.now in
    let long : mask_len m ≡ length col.items = omega arith in
    let typed : is_integer col.dtype ≡ true = integers_held col.dtype c.in-Primitive.ptype c.in-Primitive.field-1 (sym c.dtype.ensures ∙ c.in-Primitive.is) in
    answered_under (option_map (λ p. integer_of p.0)) (reduce int_min) m col s c.extremes_typed.result long typed c.in_ok-source.ensures.items c.extremes_typed.ensures.least

pub returns-clause-greatest : goal.returns-clause-greatest
returns-clause-greatest c =
    let col = column c.args.array.now in
    let s = column_of_source c.in_ok-source.source in
    let m = c.args.mask.now in
    let long : mask_len m ≡ length col.items = omega arith in
    let typed : is_integer col.dtype ≡ true = integers_held col.dtype c.in-Primitive.ptype c.in-Primitive.field-1 (sym c.dtype.ensures ∙ c.in-Primitive.is) in
    answered_under (option_map (λ p. integer_of p.1)) (reduce int_max) m col s c.extremes_typed.result long typed c.in_ok-source.ensures.items c.extremes_typed.ensures.greatest
