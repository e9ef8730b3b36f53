use Rattle.std.proofs.Common.{rules, ◌≡◌, ◌∙◌, ap, sym, subst, true, length, map, option_map, count_by, OnOk}
use Rattle.std.proofs.lemmas.Result.{IfOk-weaker}
use Rattle.std.specs.Prelude.{All, is_none}
use Rattle.fl_types.specs.Types.{has_ptype}
use Rattle.fl_types.specs.Values.{integer_of, ptype_of_value}
use Rattle.fl_array.specs.Trees.{column}
use Rattle.fl_column.specs.Columns.{bools}
use Rattle.fl_scan.specs.Membership.{is_one_of}
use Rattle.flcol_c.specs.Answering.{AreAnswers, test_fault}
use Rattle.fl_column.specs.Bitmaps.{bitmap_len}
use Rattle.flcol_c.specs.Reading.{nulls_fault}
use Rattle.fl_bitmaps.specs.Bitmaps.{IsClearFrom}
use Rattle.flcol_c.proofs.AnswerLaws.{answered, answers_counted, list_comparable, nulls_answered, test_allowed, test_room, tests_answered}
use Rattle.flcol_c.proofs.StatusLaws.{gives_by_fault, gives_later}
use Rattle.flcol_c.proofs.answering.is_in.Goals as goal

pub is_in-requires : goal.is_in-requires
is_in-requires g c =
    let here = column c.args.array.now in
    let q = g.T.NativePType.PTYPE in
    let typed : has_ptype q here.dtype ≡ true = search rules in
    list_comparable q here c.deref.result.now typed (subst (All (λ value. ptype_of_value value ≡ q)) (sym c.deref.ensures.value) c.in_ok-values.ensures.typed)

pub write_booleans-requires : goal.write_booleans-requires
write_booleans-requires g c =
    let here = column c.args.array.now in
    let b = c.in_ok-answers.answers in
    let list = c.deref.result.now in
    let test = is_one_of (map g.T.Number.value c.args.list.now) in
    let typed : has_ptype g.T.NativePType.PTYPE here.dtype ≡ true = search rules in
    let same : is_one_of (map integer_of list) ≡ test = ap (λ xs. is_one_of (map integer_of xs)) c.deref.ensures.value ∙ ap is_one_of c.in_ok-values.ensures.integers in
    let told : bools b ≡ map (option_map test) here.items = subst (λ test. bools b ≡ map (option_map test) here.items) same (tests_answered (is_one_of (map integer_of list)) here b g.T.NativePType.PTYPE typed c.in_ok-answers.ensures) in
    let counted : length b.bits ≡ length here.items = answers_counted test here b c.len-count.result c.len-count.ensures.bits c.len-count.ensures.items told in
    let room : length c.args.bits.now ≡ bitmap_len (length here.items) = search rules in
    room ∙ ap bitmap_len (sym counted)

pub returns-clause-tested : goal.returns-clause-tested
returns-clause-tested g c =
    let here = column c.args.array.now in
    let b = c.in_ok-answers.answers in
    let list = c.deref.result.now in
    let test = is_one_of (map g.T.Number.value c.args.list.now) in
    let typed : has_ptype g.T.NativePType.PTYPE here.dtype ≡ true = search rules in
    let same : is_one_of (map integer_of list) ≡ test = ap (λ xs. is_one_of (map integer_of xs)) c.deref.ensures.value ∙ ap is_one_of c.in_ok-values.ensures.integers in
    let told : bools b ≡ map (option_map test) here.items = subst (λ test. bools b ≡ map (option_map test) here.items) same (tests_answered (is_one_of (map integer_of list)) here b g.T.NativePType.PTYPE typed c.in_ok-answers.ensures) in
    let counted : length b.bits ≡ length here.items = answers_counted test here b c.len-count.result c.len-count.ensures.bits c.len-count.ensures.items told in
    let room : length c.args.bits.now ≡ bitmap_len (length here.items) = search rules in
    let nulls : count_by is_none (bools b) ≡ count_by is_none here.items = nulls_answered test here b told in
    let bits = c.write_booleans.new.bits in
    let validity = c.write_booleans.new.validity in
    gives_later (test_fault g.T.NativePType.PTYPE (length c.args.bits.now) here) (nulls_fault (length c.args.validity.now) here) (λ _. AreAnswers test here bits validity) c.write_booleans.result (test_allowed g.T.NativePType.PTYPE (length c.args.bits.now) here typed room)
    (gives_by_fault (nulls_fault (length c.args.validity.now) here) _ c.write_booleans.result (c.write_booleans.ensures.fault ∙ test_room (length c.args.validity.now) (length b.bits) (count_by is_none (bools b)) here counted nulls)
    (IfOk-weaker c.write_booleans.result _ _ (λ _ written. answered test here b bits validity told counted written) c.write_booleans.ensures.items))

pub returns-clause-clear : goal.returns-clause-clear
returns-clause-clear g c =
    let here = column c.args.array.now in
    let b = c.in_ok-answers.answers in
    let list = c.deref.result.now in
    let test = is_one_of (map g.T.Number.value c.args.list.now) in
    let typed : has_ptype g.T.NativePType.PTYPE here.dtype ≡ true = search rules in
    let same : is_one_of (map integer_of list) ≡ test = ap (λ xs. is_one_of (map integer_of xs)) c.deref.ensures.value ∙ ap is_one_of c.in_ok-values.ensures.integers in
    let told : bools b ≡ map (option_map test) here.items = subst (λ test. bools b ≡ map (option_map test) here.items) same (tests_answered (is_one_of (map integer_of list)) here b g.T.NativePType.PTYPE typed c.in_ok-answers.ensures) in
    let counted : length b.bits ≡ length here.items = answers_counted test here b c.len-count.result c.len-count.ensures.bits c.len-count.ensures.items told in
    subst (λ n. OnOk c.write_booleans.result (IsClearFrom n c.write_booleans.new.bits)) counted c.write_booleans.ensures.clear

pub returns-clause-clear_valid : goal.returns-clause-clear_valid
returns-clause-clear_valid g c =
    let here = column c.args.array.now in
    let b = c.in_ok-answers.answers in
    let list = c.deref.result.now in
    let test = is_one_of (map g.T.Number.value c.args.list.now) in
    let typed : has_ptype g.T.NativePType.PTYPE here.dtype ≡ true = search rules in
    let same : is_one_of (map integer_of list) ≡ test = ap (λ xs. is_one_of (map integer_of xs)) c.deref.ensures.value ∙ ap is_one_of c.in_ok-values.ensures.integers in
    let told : bools b ≡ map (option_map test) here.items = subst (λ test. bools b ≡ map (option_map test) here.items) same (tests_answered (is_one_of (map integer_of list)) here b g.T.NativePType.PTYPE typed c.in_ok-answers.ensures) in
    let counted : length b.bits ≡ length here.items = answers_counted test here b c.len-count.result c.len-count.ensures.bits c.len-count.ensures.items told in
    subst (λ n. OnOk c.write_booleans.result (IsClearFrom n c.write_booleans.new.validity)) counted c.write_booleans.ensures.clear_valid
