use Rattle.std.proofs.Common.{◌≡◌, ℕ, pos, ◌*◌, ◌<◌, get_or, length, map}
use Rattle.fastlanes.specs.Compared.{has_bit}
use Rattle.fl_scan.specs.Membership.{is_one_of}
use Rattle.fl_scan.proofs.one_of.find_each.Given as goal

-- the answers of the words so far
abbrev pub invariant-loop-k : goal.invariant-loop-k
invariant-loop-k g l = record {
  done : (i : ℕ) → i < 64 * l.k → has_bit l.bits i ≡ is_one_of (map g.T.Number.value l.list) (get_or (map g.T.Number.value l.items) i (pos 0));
  whole : length l.bits ≡ 16;
}
