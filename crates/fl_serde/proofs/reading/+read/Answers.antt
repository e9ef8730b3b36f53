use Rattle.std.proofs.Common.{◌≡◌, ◌∙◌, ◌<◌, ◌≤◌, Ok, length, map, sym, ap, subst, arith}
use Rattle.fl_types.specs.Refusals.{Answers}
use Rattle.fl_patches.proofs.Parts.{ok_same}
use Rattle.fl_serialized.specs.Nodes.{head_of}
use Rattle.fl_serde.specs.Checks.{IsChecked}
use Rattle.fl_serde.specs.Children.{expected_children}
use Rattle.fl_serde.specs.Reading.{read_children, reading}
use Rattle.fl_serde.proofs.ReadLaws.{all_children, all_read, answers_memory, answers_refused, answers_refused_there, child_of, fits, fits_not, next_child, refused_check, refused_child, refused_short, remaining, remaining_first, whole}
use Rattle.fl_serde.proofs.reading.+read.Goals as goal

pub returns-in_err-info : goal.returns-in_err-info
returns-in_err-info t c =
    answers_refused c.from_residual.result (reading c.args.node.now) c.in_err-info.field-0.0 c.from_residual.ensures.1 (refused_check c.args.node.now c.in_err-info.field-0.0 (sym c.in_err-info.ensures.info))

pub returns-then-not-matches : goal.returns-then-not-matches
returns-then-not-matches t c =
    let here : c.loop-i.i < length c.in_ok-expected.expected.items = omega arith in
    let node = c.args.node.now in
    let nodes = c.children-children.result.now in
    let expected = c.in_ok-expected.expected.items in
    let all = whole node c.in_ok-info.info nodes expected (sym c.in_ok-info.ensures.info) c.children-children.ensures.children c.in_ok-expected.ensures in
    refused_child node c.in_ok-info.info nodes expected c.loop-i.i c.index.result.now c.index-children-i.result c.loop-i.trees.items _ all c.loop-i.invariant here c.if-i-children.false c.index.ensures c.index-children-i.is
    (fits_not c.index.result.now c.index-children-i.result c.matches.result c.matches.ensures c.if-not-matches.true)

pub returns-in_err-read : goal.returns-in_err-read
returns-in_err-read t c =
    let node = c.args.node.now in
    let nodes = c.children-children.result.now in
    let expected = c.in_ok-expected.expected.items in
    let here : c.loop-i.i < length c.in_ok-expected.expected.items = omega arith in
    let asked = c.index.result.now in
    let child = c.index-children-i.result in
    let e = c.in_err-read.field-0.0 in
    let all = whole node c.in_ok-info.info nodes expected (sym c.in_ok-info.ensures.info) c.children-children.ensures.children c.in_ok-expected.ensures in
    answers_refused_there c.from_residual-in_err-read.result (reading node) (reading child) e c.from_residual-in_err-read.ensures.1 c.in_err-read.ensures
    (λ refused. refused_child node c.in_ok-info.info nodes expected c.loop-i.i asked child c.loop-i.trees.items e all c.loop-i.invariant here c.if-i-children.false c.index.ensures c.index-children-i.is
    (fits asked child c.matches.result c.matches.ensures c.if-not-matches.false ∙ refused))

pub loop-i-preserved : goal.loop-i-preserved
loop-i-preserved t c =
    let here : c.loop-i.i < length c.in_ok-expected.expected.items = omega arith in
    let asked = c.index.result.now in
    let child = c.index-children-i.result in
    next_child c.children-children.result.now c.in_ok-expected.expected.items c.loop-i.i asked child c.loop-i.trees.items c.push.new.self.items c.in_ok-read.field-0 c.loop-i.invariant here c.if-i-children.false c.index.ensures c.index-children-i.is
    (fits asked child c.matches.result c.matches.ensures c.if-not-matches.false ∙ c.in_ok-read.ensures) c.in_ok-push.ensures.items

pub returns : goal.returns
returns t c =
    let done : length c.in_ok-expected.expected.items ≤ c.loop-i.i = omega arith in
    let node = c.args.node.now in
    let nodes = c.children-children.result.now in
    let expected = c.in_ok-expected.expected.items in
    let all = whole node c.in_ok-info.info nodes expected (sym c.in_ok-info.ensures.info) c.children-children.ensures.children c.in_ok-expected.ensures in
    subst (λ m. Answers (λ a. a) c.make.result m) (sym (all_children node c.in_ok-info.info nodes expected c.loop-i.i c.loop-i.trees.items all c.loop-i.invariant done)) c.make.ensures

pub make-requires-clause-trees : goal.make-requires-clause-trees
make-requires-clause-trees t c =
    let done : length c.in_ok-expected.expected.items ≤ c.loop-i.i = omega arith in
    all_read c.children-children.result.now c.in_ok-expected.expected.items c.loop-i.i c.loop-i.trees.items c.loop-i.invariant done ∙ ap length (ok_same _ _ c.in_ok-expected.ensures)

pub loop-i-init : goal.loop-i-init
loop-i-init t c =
    let children = map child_of c.children-children.result.now in
    let expected = c.in_ok-expected.expected.items in
    subst (λ trees. read_children expected children ≡ remaining expected children 0 trees) (sym c.new-trees.ensures.items) (remaining_first expected children)

pub expected_children-requires : goal.expected_children-requires
expected_children-requires t c =
    subst (λ nodes. IsChecked (head_of c.args.node.now) c.in_ok-info.info (length nodes)) (sym c.children-children.ensures.children) c.in_ok-info.ensures.sound

pub make-requires-clause-checked : goal.make-requires-clause-checked
make-requires-clause-checked t c =
    subst (λ nodes. IsChecked (head_of c.args.node.now) c.in_ok-info.info (length nodes)) (sym c.children-children.ensures.children) c.in_ok-info.ensures.sound

pub returns-in_err-expected : goal.returns-in_err-expected
returns-in_err-expected t c =
    let node = c.args.node.now in
    answers_refused_there c.from_residual-in_err-expected.result (reading node) (Ok (expected_children (head_of node) c.in_ok-info.info (length c.children-children.result.now))) c.in_err-expected.field-0.0
    c.from_residual-in_err-expected.ensures.1 c.in_err-expected.ensures (λ refused. absurd cc)

pub returns-then-i-children : goal.returns-then-i-children
returns-then-i-children t c =
    let here : c.loop-i.i < length c.in_ok-expected.expected.items = omega arith in
    let node = c.args.node.now in
    let nodes = c.children-children.result.now in
    let expected = c.in_ok-expected.expected.items in
    let all = whole node c.in_ok-info.info nodes expected (sym c.in_ok-info.ensures.info) c.children-children.ensures.children c.in_ok-expected.ensures in
    refused_short node c.in_ok-info.info nodes expected c.loop-i.i c.loop-i.trees.items all c.loop-i.invariant here c.if-i-children.true

pub returns-in_err-push : goal.returns-in_err-push
returns-in_err-push t c =
    answers_memory c.from_residual-in_err-push.result (reading c.args.node.now) c.from_residual-in_err-push.ensures.1
