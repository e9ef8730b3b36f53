use Rattle.std.proofs.Common.{◌≡◌, Ok, length, map, arith, rules, ap}
use Rattle.fl_codec.specs.Chunks.{chunks_of}
use Rattle.fl_codec.specs.Parts.{items_of_primitive}
use Rattle.fl_codec.proofs.DeltaLaws.{bases_made}
use Rattle.fl_codec.proofs.delta.blocks.bases_typed.Goals as goal

pub loop-k-preserved : goal.loop-k-preserved
loop-k-preserved g c = record { last = c.in_ok-last.ensures.last; bases = c.in_ok-last.ensures.bases }

pub returns : goal.returns
returns g c =
    let last = c.loop-k-test.false in
    let ended = c.chunk_count-chunks.ensures in
    let reached = c.loop-k.auto.k-end in
    let long = c.len.ensures.items in
    let all : c.loop-k.k ≡ chunks_of (length (items_of_primitive c.args.array.now)) = omega arith in
    ap (λ p. Ok p) (bases_made c.args.array.now g.T.NativePType.PTYPE c.loop-k.k (map g.T.Number.value c.loop-k.bases.items) c.non_nullable.result c.requires all c.loop-k.invariant.bases c.non_nullable.ensures)

pub loop-k-init : goal.loop-k-init
loop-k-init g c = record {
  last = c.zero-last.ensures;
  bases = let none = c.in_ok-bases.ensures.items in search rules;
}

pub push_bases-requires : goal.push_bases-requires
push_bases-requires g c =
    let more = c.loop-k-test.true in
    let ended = c.chunk_count-chunks.ensures in
    let size = c.len.ensures.slots in
    (search rules, (c.requires, (omega arith, (c.loop-k.invariant.last, c.loop-k.invariant.bases))))
