use Rattle.std.proofs.Common.{rules, ◌≡◌, ◌∙◌, ap, sym, subst, true, length, map, option_map, count_by, OnOk, IfSome, Some, Err}
use Rattle.std.proofs.lemmas.Result.{IfOk-weaker}
use Rattle.std.specs.Prelude.{is_none}
use Rattle.fl_types.specs.Types.{has_ptype}
use Rattle.fl_types.specs.Values.{scalar_parts}
use Rattle.fl_types.specs.declared.query.CompareOperator.{CompareOperator}
use Rattle.fl_array.specs.Trees.{column}
use Rattle.fl_column.specs.Columns.{bools}
use Rattle.fl_column.specs.Queries.{holds}
use Rattle.fl_ops.specs.Queries.{integer_in}
use Rattle.flcol_c.specs.Answering.{AreAnswers, compare_fault, operator_of}
use Rattle.fl_column.specs.Bitmaps.{bitmap_len}
use Rattle.flcol_c.specs.Reading.{nulls_fault}
use Rattle.flcol_c.specs.Statuses.{GivesAfter}
use Rattle.flcol_c.specs.declared.fault.Fault.TheVariants.{Refused}
use Rattle.fl_bitmaps.specs.Bitmaps.{IsClearFrom}
use Rattle.flcol_c.proofs.AnswerLaws.{answered, answers_counted, compare_allowed, compare_memory, compared, nulls_answered, test_room}
use Rattle.flcol_c.proofs.StatusLaws.{from_refusal, gives_by_fault, gives_later, memory_alone}
use Rattle.flcol_c.proofs.answering.compare.Goals as goal

pub write_booleans-requires : goal.write_booleans-requires
write_booleans-requires g c =
    let here = column c.args.array.now in
    let b = c.in_ok-answers.answers in
    let z = g.T.Number.value c.args.constant in
    let test = holds c.in-Some.operator z in
    let typed : has_ptype g.T.NativePType.PTYPE here.dtype ≡ true = search rules in
    let integer : integer_in (scalar_parts c.primitive-constant.result) ≡ z = search rules in
    let told : bools b ≡ map (option_map test) here.items = compared c.in-Some.operator (scalar_parts c.primitive-constant.result) z here b g.T.NativePType.PTYPE integer typed c.in_ok-answers.ensures in
    let counted : length b.bits ≡ length here.items = answers_counted test here b c.len-count.result c.len-count.ensures.bits c.len-count.ensures.items told in
    let room : length c.args.bits.now ≡ bitmap_len (length here.items) = search rules in
    room ∙ ap bitmap_len (sym counted)

pub returns-clause-compared : goal.returns-clause-compared
returns-clause-compared g c =
    let here = column c.args.array.now in
    let b = c.in_ok-answers.answers in
    let z = g.T.Number.value c.args.constant in
    let test = holds c.in-Some.operator z in
    let typed : has_ptype g.T.NativePType.PTYPE here.dtype ≡ true = search rules in
    let integer : integer_in (scalar_parts c.primitive-constant.result) ≡ z = search rules in
    let told : bools b ≡ map (option_map test) here.items = compared c.in-Some.operator (scalar_parts c.primitive-constant.result) z here b g.T.NativePType.PTYPE integer typed c.in_ok-answers.ensures in
    let counted : length b.bits ≡ length here.items = answers_counted test here b c.len-count.result c.len-count.ensures.bits c.len-count.ensures.items told in
    let room : length c.args.bits.now ≡ bitmap_len (length here.items) = search rules in
    let nulls : count_by is_none (bools b) ≡ count_by is_none here.items = nulls_answered test here b told in
    let named : operator_of c.args.operator ≡ Some c.in-Some.operator = search rules in
    let bits = c.write_booleans.new.bits in
    let validity = c.write_booleans.new.validity in
    gives_later (compare_fault g.T.NativePType.PTYPE c.args.operator (length c.args.bits.now) here) (nulls_fault (length c.args.validity.now) here)
    (λ _. IfSome (operator_of c.args.operator) (λ (op : CompareOperator). AreAnswers (holds op z) here bits validity)) c.write_booleans.result
    (compare_allowed g.T.NativePType.PTYPE c.args.operator (length c.args.bits.now) c.in-Some.operator here named typed room)
    (gives_by_fault (nulls_fault (length c.args.validity.now) here) _ c.write_booleans.result (c.write_booleans.ensures.fault ∙ test_room (length c.args.validity.now) (length b.bits) (count_by is_none (bools b)) here counted nulls)
    (IfOk-weaker c.write_booleans.result _ _ (λ _ written. subst (λ o. IfSome o (λ (op : CompareOperator). AreAnswers (holds op z) here bits validity)) (sym named) (answered test here b bits validity told counted written)) c.write_booleans.ensures.items))

pub returns-clause-clear : goal.returns-clause-clear
returns-clause-clear g c =
    let here = column c.args.array.now in
    let b = c.in_ok-answers.answers in
    let z = g.T.Number.value c.args.constant in
    let test = holds c.in-Some.operator z in
    let typed : has_ptype g.T.NativePType.PTYPE here.dtype ≡ true = search rules in
    let integer : integer_in (scalar_parts c.primitive-constant.result) ≡ z = search rules in
    let told : bools b ≡ map (option_map test) here.items = compared c.in-Some.operator (scalar_parts c.primitive-constant.result) z here b g.T.NativePType.PTYPE integer typed c.in_ok-answers.ensures in
    let counted : length b.bits ≡ length here.items = answers_counted test here b c.len-count.result c.len-count.ensures.bits c.len-count.ensures.items told in
    subst (λ n. OnOk c.write_booleans.result (IsClearFrom n c.write_booleans.new.bits)) counted c.write_booleans.ensures.clear

pub returns-clause-clear_valid : goal.returns-clause-clear_valid
returns-clause-clear_valid g c =
    let here = column c.args.array.now in
    let b = c.in_ok-answers.answers in
    let z = g.T.Number.value c.args.constant in
    let test = holds c.in-Some.operator z in
    let typed : has_ptype g.T.NativePType.PTYPE here.dtype ≡ true = search rules in
    let integer : integer_in (scalar_parts c.primitive-constant.result) ≡ z = search rules in
    let told : bools b ≡ map (option_map test) here.items = compared c.in-Some.operator (scalar_parts c.primitive-constant.result) z here b g.T.NativePType.PTYPE integer typed c.in_ok-answers.ensures in
    let counted : length b.bits ≡ length here.items = answers_counted test here b c.len-count.result c.len-count.ensures.bits c.len-count.ensures.items told in
    subst (λ n. OnOk c.write_booleans.result (IsClearFrom n c.write_booleans.new.validity)) counted c.write_booleans.ensures.clear_valid

pub returns-in_err-answers-clause-compared : goal.returns-in_err-answers-clause-compared
returns-in_err-answers-clause-compared g c =
    let here = column c.args.array.now in
    let ptype = g.T.NativePType.PTYPE in
    let bits = c.args.bits.now in
    let validity = c.args.validity.now in
    let e = c.in_err-answers.field-0.0 in
    let typed : has_ptype ptype here.dtype ≡ true = search rules in
    let named : operator_of c.args.operator ≡ Some c.in-Some.operator = search rules in
    let room : length bits ≡ bitmap_len (length here.items) = search rules in
    let before = compare_fault ptype c.args.operator (length bits) here in
    let later = nulls_fault (length validity) here in
    let Is = λ (_ : Unit {0}). IfSome (operator_of c.args.operator) (λ (op : CompareOperator). AreAnswers (holds op (g.T.Number.value c.args.constant)) here bits validity) in
    from_refusal (GivesAfter before later Is) c.from_residual.result e c.from_residual.ensures.1
    (gives_later before later Is (Err (Refused e)) (compare_allowed ptype c.args.operator (length bits) c.in-Some.operator here named typed room)
    (memory_alone later Is e (compare_memory c.in-Some.operator (scalar_parts c.primitive-constant.result) here ptype e typed c.in_err-answers.ensures)))
