use Rattle.std.proofs.Common.{◌≡◌, length, map, option_map, arith, refl, ap, ◌∙◌}
use Rattle.fl_codec.specs.Chunks.{chunk, chunks_of}
use Rattle.fl_codec.specs.FoRColumns.{turned}
use Rattle.fl_codec.specs.Parts.{compress_deltas, items_of_primitive}
use Rattle.fl_codec.proofs.DeltaLeasts.{least_after, least_is_of_all, reference_after, references_are}
use Rattle.fl_codec.proofs.for_.delta_leasts.delta_leasts.Goals as goal

pub loop-k-init : goal.loop-k-init
loop-k-init g c = record {
  last = c.zero-last.ensures;
  references = ap (map g.T.Number.value) c.in_ok-references.ensures.items;
  least = refl;
}

pub loop-k-preserved : goal.loop-k-preserved
loop-k-preserved g c =
    let p = c.args.array.now in
    let value = g.T.Number.value in
    let t = g.T.NativePType.PTYPE in
    let xs = c.as_slice.result.now in
    let written : map value xs ≡ chunk c.loop-k.k (compress_deltas p).1.slots = ap (map value) c.as_slice.ensures.value ∙ c.in_ok-last.ensures.deltas in
    record {
      last = c.in_ok-last.ensures.last;
      references = reference_after c.args.order p t (value c.origin_of-origin.result) c.loop-k.k value xs (map value c.loop-k.references.items) _ c.requires c.origin_of-origin.ensures written c.loop-k.invariant.references c.in_ok-least.ensures.references;
      least = least_after p c.loop-k.k value (turned t (value c.origin_of-origin.result)) xs (option_map value c.loop-k.least) _ written c.loop-k.invariant.least c.in_ok-least.ensures.least;
    }

pub returns-clause-references : goal.returns-clause-references
returns-clause-references g c =
    let last = c.loop-k-test.false in
    let ended = c.chunk_count-chunks.ensures in
    let reached = c.loop-k.auto.k-end in
    let long = c.len.ensures.items in
    let all : c.loop-k.k ≡ chunks_of (length (items_of_primitive c.args.array.now)) = omega arith in
    references_are c.args.order c.args.array.now c.loop-k.k (map g.T.Number.value c.loop-k.references.items) all c.loop-k.invariant.references

pub returns-clause-least : goal.returns-clause-least
returns-clause-least g c =
    let value = g.T.Number.value in
    let last = c.loop-k-test.false in
    let ended = c.chunk_count-chunks.ensures in
    let reached = c.loop-k.auto.k-end in
    let long = c.len.ensures.items in
    let all : c.loop-k.k ≡ chunks_of (length (items_of_primitive c.args.array.now)) = omega arith in
    c.turned.ensures ∙ least_is_of_all c.args.order c.args.array.now g.T.NativePType.PTYPE (value c.origin_of-origin.result) c.loop-k.k (option_map value c.loop-k.least) c.requires c.origin_of-origin.ensures all c.loop-k.invariant.least
