use Rattle.std.proofs.Common.{◌≡◌, ℕ, pos, ◌*◌, ◌<◌, get_or, length, map}
use Rattle.fastlanes.specs.Compared.{has_bit}
use Rattle.fl_bitpacking.specs.ValueAnswers.{named_answer}
use Rattle.fl_bitpacking.proofs.compute.compare.values.look_up.Given as goal

-- the answers of the words so far
abbrev pub invariant-loop-k : goal.invariant-loop-k
invariant-loop-k g l = record {
  done : (i : ℕ) → i < 64 * l.k → has_bit l.bits i ≡ named_answer l.answers (get_or (map g.I.Number.value l.indices) i (pos 0));
  whole : length l.bits ≡ 16;
}
