use Rattle.std.proofs.Common.{◌≡◌, ◌∷◌, [], Result, Ok, Err, length, refl, subst, arith}
use Rattle.std.specs.Prelude.{OnErr}
use Rattle.fl_file.specs.Ends.{LogGrowsBy}
use Rattle.fl_file.proofs.reader.bytes_at.Goals as goal

on_err : {X E : Type 0} (r : Result X E) (P : Type 0) → P → OnErr r P
on_err (Ok x) P h = tt
on_err (Err e) P h = h

pub returns-in_err-read_at-clause-unread : goal.returns-in_err-read_at-clause-unread
returns-in_err-read_at-clause-unread g c =
    let long : length c.deref_mut.result.now ≡ c.args.len = (let v = c.deref_mut.ensures.len in let n = c.in_ok-room.ensures in omega arith) in
    on_err c.from_residual-in_err-read_at.result _ ((c.args.offset, c.args.len) ∷ [], [], refl, subst (λ n. LogGrowsBy (g.R.ReadAt.reads c.args.source.now) (g.R.ReadAt.reads c.read_at.new.self) ((c.args.offset, n) ∷ [])) long c.in_err-read_at.ensures.reads)
