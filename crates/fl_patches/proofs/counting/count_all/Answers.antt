use Rattle.std.proofs.Common.{◌≡◌, ◌≤◌, ◌+◌, ◌-◌, ◌*◌, ◌/◌, [], length, get_or, ap, refl, arith, ◌∙◌}
use Rattle.fl_patches.proofs.Histograms.{entry_of_run, four_runs, histogram_of_zeros, length-histogram}
use Rattle.fl_patches.proofs.counting.count_all.Goals as goal

pub count_runs-requires-clause-second : goal.count_runs-requires-clause-second
count_runs-requires-clause-second g c = histogram_of_zeros g.S.CountedItems.PTYPE _ (ap length c.requires.empty ∙ length-histogram g.S.CountedItems.PTYPE [])

pub count_runs-requires-clause-third : goal.count_runs-requires-clause-third
count_runs-requires-clause-third g c = histogram_of_zeros g.S.CountedItems.PTYPE _ (ap length c.requires.empty ∙ length-histogram g.S.CountedItems.PTYPE [])

pub count_runs-requires-clause-fourth : goal.count_runs-requires-clause-fourth
count_runs-requires-clause-fourth g c = histogram_of_zeros g.S.CountedItems.PTYPE _ (ap length c.requires.empty ∙ length-histogram g.S.CountedItems.PTYPE [])

pub add_entries-requires-clause-few : goal.add_entries-requires-clause-few
add_entries-requires-clause-few g c = λ b.
    let t = g.S.CountedItems.PTYPE in
    let xs = g.S.CountedItems.items c.args.items.now in
    let start = c.args.start in
    let n = (c.args.end - c.args.start) / 4 in
    let few1 : get_or c.count_runs.new.first b 0 ≤ n = entry_of_run t xs start (start + n) n b c.count_runs.new.first refl c.count_runs.ensures.first in
    let few2 : get_or c.count_runs.new.second b 0 ≤ n = entry_of_run t xs (start + n) (start + 2 * n) n b c.count_runs.new.second (omega arith) c.count_runs.ensures.second in
    let few3 : get_or c.count_runs.new.third b 0 ≤ n = entry_of_run t xs (start + 2 * n) (start + 3 * n) n b c.count_runs.new.third (omega arith) c.count_runs.ensures.third in
    let few4 : get_or c.count_runs.new.fourth b 0 ≤ n = entry_of_run t xs (start + 3 * n) (start + 4 * n) n b c.count_runs.new.fourth (omega arith) c.count_runs.ensures.fourth in
    omega arith

pub loop-i-init : goal.loop-i-init
loop-i-init g c =
    let n = (c.args.end - c.args.start) / 4 in
    four_runs g.S.CountedItems.PTYPE (g.S.CountedItems.items c.args.items.now) c.args.start (c.args.start + n) (c.args.start + 2 * n) (c.args.start + 3 * n) (c.args.start + 4 * n) c.count_runs.new.first c.count_runs.new.second c.count_runs.new.third c.count_runs.new.fourth c.add_entries.new.entries
    (omega arith) (omega arith) (omega arith) (omega arith) c.count_runs.ensures.first c.count_runs.ensures.second c.count_runs.ensures.third c.count_runs.ensures.fourth c.add_entries.ensures.long c.add_entries.ensures.sums

pub returns : goal.returns
returns g c = let all : c.loop-i.i ≡ c.args.end = omega arith in rw all at c.loop-i.invariant
