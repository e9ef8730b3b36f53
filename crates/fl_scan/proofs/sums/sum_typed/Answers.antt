use Rattle.std.proofs.Common.{◌≡◌, ◌∙◌, ◌<◌, ◌^◌, ap, false, length, of_z, pos, rules, sym, true, SFits}
use Rattle.std.specs.Prelude.{Ok}
use Rattle.std.proofs.lemmas.Int.{to_z-of_z}
use Rattle.std.specs.Int.{w128}
use Rattle.fl_types.specs.Integers.{is_unsigned}
use Rattle.fl_scan.specs.Sources.{column_of_source}
use Rattle.fl_scan.proofs.FinalLaws.{signed_total, unsigned_total}
use Rattle.fl_scan.proofs.sums.sum_typed.Goals as goal

pub returns-in-U8-clause-sum : goal.returns-in-U8-clause-sum
returns-in-U8-clause-sum c =
    let col = column_of_source c.args.source.now in
    let few : length col.items < 2 ^ 64 = c.prove_few.ensures in
    let fit : SFits w128 c.in_ok-sum.sum = search rules in
    let typed : is_unsigned c.args.ptype ≡ true = search rules in
    let same : c.cast_unsigned.result ≡ of_z w128 c.in_ok-sum.sum = c.cast_unsigned.ensures ∙ ap (of_z w128) (to_z-of_z w128 c.in_ok-sum.sum fit) in
    ap (λ z. Ok z) (sym (ap (λ n. pos n) same ∙ unsigned_total c.args.ptype col c.in_ok-sum.sum typed c.requires.fit few fit c.in_ok-sum.ensures.sum))

pub returns-in-I8-clause-sum : goal.returns-in-I8-clause-sum
returns-in-I8-clause-sum c =
    let col = column_of_source c.args.source.now in
    let few : length col.items < 2 ^ 64 = c.prove_few.ensures in
    let fit : SFits w128 c.in_ok-sum.sum = search rules in
    let typed : is_unsigned c.args.ptype ≡ false = search rules in
    ap (λ z. Ok z) (sym (to_z-of_z w128 c.in_ok-sum.sum fit ∙ signed_total c.args.ptype col c.in_ok-sum.sum typed c.requires.fit few fit c.in_ok-sum.ensures.sum))
