use Rattle.std.proofs.Common.{ℕ, ◌*◌, ◌∙◌, refl, arith}
use Rattle.fl_bitpacking.proofs.Bounds.{one_more}
use Rattle.fl_bitpacking.proofs.boundaries.write_multiples.Goals as goal

pub loop-j-preserved : goal.loop-j-preserved
loop-j-preserved c =
    let added = c.push_reserved.ensures.len in
    let so_far = c.loop-j.invariant.long in
    record {
      long = omega arith;
      room = c.push_reserved.ensures.capacity ∙ c.loop-j.invariant.room;
      all = one_more (λ (j : ℕ). c.args.step * j) c.loop-j.j c.loop-j.numbers.items _ (c.args.step * c.loop-j.j) c.push_reserved.ensures.items c.loop-j.invariant.all refl;
    }
