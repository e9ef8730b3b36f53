use Rattle.std.proofs.Common.{◌≡◌, ℕ, ◌+◌, ◌-◌, drop, length, length-drop, length-take, ap, subst, arith}
use Rattle.std.specs.Prelude.{IfSome}
use Rattle.fl_column.specs.Columns.{integers_in, numbers_of}
use Rattle.fl_codec.specs.RunColumns.{run_item}
use Rattle.fl_bitpacking.specs.Blocks.{value_at}
use Rattle.fl_array.specs.Trees.{column}
use Rattle.fl_array.proofs.ReadRuns.{runs_joined, runs_shown}
use Rattle.fl_array.proofs.reader.runs.read_runs.Goals as goal

pub loop-k-preserved : goal.loop-k-preserved
loop-k-preserved g c =
    let value = g.T.Number.value in
    let a = c.args.runs.now.array.now in
    let item = λ (p : ℕ). run_item (integers_in (column a.values)) (column a.indices).items (numbers_of (column a.offsets)) p in
    let first = c.offset.result + c.args.start in
    let items = c.loop-k.items in
    let new = c.read_chunk.new.items in
    let k = c.loop-k.k in
    let from = c.places_from-from.result.0 in
    let to = c.places_from-from.result.1 in
    let from_is = c.places_from-from.ensures.from in
    let to_is = c.places_from-from.ensures.to in
    let order = c.places_from-from.ensures.order in
    let room = c.places_from-from.ensures.room in
    let more = c.loop-k-test.true in
    let kept = c.loop-k.auto.items in
    let taken = length-take (to - from) (drop from items) in
    let rest = length-drop from items in
    let written : length new ≡ to - from = let same = c.read_chunk.auto.items in omega arith in
    λ i h. runs_joined value (λ (q : ℕ). item (first + q)) items new _ from to i (omega arith) written (λ q below. c.loop-k.invariant q (omega arith))
    (λ q below. let place : first + from + q ≡ first + (from + q) = omega arith in subst (λ (p : ℕ). IfSome (item p) (λ z. value_at value new q ≡ z)) place (c.read_chunk.ensures q (omega arith))) (omega arith)

pub returns : goal.returns
returns g c =
    let a = c.args.runs.now.array.now in
    let kept = c.loop-k.auto.items in
    let chunks = c.chunk_count-k-end.ensures in
    let last = c.loop-k.auto.k-end (omega arith) in
    let ended = c.loop-k-test.false in
    runs_shown a (value_at g.T.Number.value c.loop-k.items) (c.offset.result + c.args.start) c.args.start (length c.args.items.now) (ap (λ (n : ℕ). n + c.args.start) c.offset.ensures.offset) c.requires.range
    (λ i h. c.loop-k.invariant i (omega arith))
