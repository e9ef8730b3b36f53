use Rattle.std.proofs.Common.{◌≡◌, drop}
use Rattle.fl_file.specs.FootReading.{lie_between}
use Rattle.fl_file.proofs.reading.lie_between.Given as goal

-- the chunks that are left lie behind the place as all lie behind the start
abbrev pub invariant-loop-chunk : goal.invariant-loop-chunk
invariant-loop-chunk l = lie_between l.place l.end (drop l.chunk-index l.chunks) ≡ lie_between l.fn.start l.fn.end l.fn.chunks
