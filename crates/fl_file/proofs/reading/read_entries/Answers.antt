use Rattle.std.proofs.Common.{◌≡◌, ap, arith, drop, length, length-drop, rules, take}
use Rattle.std.proofs.lemmas.Result.{err_from_is_err_and}
use Rattle.fl_file.specs.FootReading.{entries_at}
use Rattle.fl_file.proofs.FootSteps.{all_entries, missing_of, next_of}
use Rattle.fl_file.proofs.reading.read_entries.Goals as goal

pub returns-in_err-read_entry : goal.returns-in_err-read_entry
returns-in_err-read_entry c =
    let first : c.split_at.result.0.now ≡ take 96 c.loop.rest.now = search rules in
    let p = err_from_is_err_and c.from_residual-in_err-read_entry.result c.from_residual-in_err-read_entry.ensures.1 in
    rw (p.1, p.2) (missing_of c.in_err-read_entry.field-0.0 c.args.ptype c.loop.entries.items c.args.count c.loop.counter c.loop.rest.now c.split_at.result.0.now (entries_at c.args.ptype c.args.count c.args.bytes.now) c.loop-test.true first c.in_err-read_entry.ensures c.loop.invariant.read)

pub loop-preserved : goal.loop-preserved
loop-preserved c =
    let first : c.split_at.result.0.now ≡ take 96 c.loop.rest.now = search rules in
    let after : c.split_at.result.1.now ≡ drop 96 c.loop.rest.now = search rules in
    record {
      read = rw c.in_ok-push.ensures.items (next_of c.args.ptype c.loop.entries.items c.args.count c.loop.counter c.loop.rest.now c.split_at.result.0.now c.split_at.result.1.now c.in_ok-read_entry.field-0 (entries_at c.args.ptype c.args.count c.args.bytes.now) c.loop-test.true first after c.in_ok-read_entry.ensures c.loop.invariant.read);
      left = omega (arith, ap length after, length-drop 96 c.loop.rest.now, c.loop.invariant.left, c.loop-test.true);
    }

pub returns : goal.returns
returns c = all_entries c.args.ptype c.loop.entries.items c.args.count c.loop.counter c.loop.rest.now (entries_at c.args.ptype c.args.count c.args.bytes.now) c.loop-test.false c.loop.invariant.read
