use Rattle.std.proofs.Common.{◌≡◌, Ok, length, map, arith, rules, ap}
use Rattle.std.proofs.lemmas.Result.{err_from_is_err_and}
use Rattle.fl_codec.specs.Chunks.{chunks_of}
use Rattle.fl_codec.specs.Parts.{items_of_primitive}
use Rattle.fl_codec.proofs.DeltaLaws.{compressed}
use Rattle.fl_codec.proofs.delta.compress_typed.Goals as goal

pub loop-k-preserved : goal.loop-k-preserved
loop-k-preserved g c = record {
  last = c.in_ok-last.ensures.last;
  bases = c.in_ok-last.ensures.bases;
  deltas = c.in_ok-last.ensures.deltas;
}

pub returns : goal.returns
returns g c =
    let value = g.T.Number.value in
    let last = c.loop-k-test.false in
    let ended = c.chunk_count-chunks.ensures in
    let reached = c.loop-k.auto.k-end in
    let long = c.len.ensures.items in
    let all : c.loop-k.k ≡ chunks_of (length (items_of_primitive c.args.array.now)) = omega arith in
    ap (λ p. Ok p) (compressed c.args.array.now g.T.NativePType.PTYPE c.loop-k.k (map value c.loop-k.bases.items) (map value c.loop-k.deltas.items) c.non_nullable.result c.non_nullable-2.result c.requires all c.loop-k.invariant.bases c.loop-k.invariant.deltas c.non_nullable.ensures c.non_nullable-2.ensures)

pub returns-in_err-bases : goal.returns-in_err-bases
returns-in_err-bases g c = let failed = err_from_is_err_and c.from_residual.result c.from_residual.ensures.1 in rw (failed.1, failed.2) tt

pub returns-in_err-deltas : goal.returns-in_err-deltas
returns-in_err-deltas g c = let failed = err_from_is_err_and c.from_residual-in_err-deltas.result c.from_residual-in_err-deltas.ensures.1 in rw (failed.1, failed.2) tt

pub returns-in_err-last : goal.returns-in_err-last
returns-in_err-last g c = let failed = err_from_is_err_and c.from_residual-in_err-last.result c.from_residual-in_err-last.ensures.1 in rw (failed.1, failed.2) tt

pub loop-k-init : goal.loop-k-init
loop-k-init g c = record {
  last = c.zero-last.ensures;
  bases = let none = c.in_ok-bases.ensures.items in search rules;
  deltas = ap (map g.T.Number.value) c.in_ok-deltas.ensures.items;
}

pub push_chunk-requires : goal.push_chunk-requires
push_chunk-requires g c =
    let more = c.loop-k-test.true in
    let ended = c.chunk_count-chunks.ensures in
    let size = c.len.ensures.slots in
    (search rules, (c.requires, (omega arith, (c.loop-k.invariant.last, (c.loop-k.invariant.bases, c.loop-k.invariant.deltas)))))
