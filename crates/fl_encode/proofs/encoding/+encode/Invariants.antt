use Rattle.std.proofs.Common.{◌+◌}
use Rattle.fl_encode.specs.SchemeShapes.{shape}
use Rattle.fl_encode.proofs.SchemeLaws.{size}
use Rattle.fl_encode.proofs.encoding.+encode.Given as goal

abbrev pub decreases-encode : goal.decreases-encode
decreases-encode l = size (shape l.scheme.now)

abbrev pub decreases-encode_child : goal.decreases-encode_child
decreases-encode_child l = size l.scheme.now + 1

abbrev pub decreases-encode_over_reference : goal.decreases-encode_over_reference
decreases-encode_over_reference l = size l.scheme.now + 2

abbrev pub decreases-encode_over_references : goal.decreases-encode_over_references
decreases-encode_over_references l = size l.encoded.now + size l.references.now + 2

abbrev pub decreases-encode_for : goal.decreases-encode_for
decreases-encode_for l = size l.scheme.now + 3

abbrev pub decreases-encode_chunked_for : goal.decreases-encode_chunked_for
decreases-encode_chunked_for l = size l.encoded.now + size l.references.now + 3

abbrev pub decreases-encode_delta : goal.decreases-encode_delta
decreases-encode_delta l = size l.bases.now + size l.deltas.now + 3

abbrev pub decreases-encode_runs : goal.decreases-encode_runs
decreases-encode_runs l = size l.values.now + (size l.indices.now + size l.offsets.now) + 2

abbrev pub decreases-encode_rle : goal.decreases-encode_rle
decreases-encode_rle l = size l.values.now + (size l.indices.now + size l.offsets.now) + 3

abbrev pub decreases-encode_dict : goal.decreases-encode_dict
decreases-encode_dict l = size l.values.now + (size l.indices.now + size l.offsets.now) + 3
