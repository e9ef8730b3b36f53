use Rattle.std.proofs.lemmas.Result.{err_from_is_err_and}
use Rattle.fl_file.proofs.EndLaws.{all_after, front_after, front_of_zeros}
use Rattle.fl_file.proofs.writer.write_padded.Goals as goal

pub returns-in_err-write_all-clause-err : goal.returns-in_err-write_all-clause-err
returns-in_err-write_all-clause-err g c =
    let p = err_from_is_err_and c.from_residual.result c.from_residual.ensures.1 in
    rw p.1 (front_of_zeros (g.S.Append.written c.args.sink.now) (g.S.Append.written c.write_all.new.self) c.args.count c.args.bytes.now (rw c.zeros.ensures at c.in_err-write_all.ensures.err))

pub returns-clause-ok : goal.returns-clause-ok
returns-clause-ok g c =
    all_after c.write_all-2.result (g.S.Append.written c.args.sink.now) (g.S.Append.written c.write_all.new.self) (g.S.Append.written c.write_all-2.new.self) c.args.count c.args.bytes.now (rw c.zeros.ensures at c.in_ok-write_all.ensures.ok) c.write_all-2.ensures.ok

pub returns-clause-err : goal.returns-clause-err
returns-clause-err g c =
    front_after c.write_all-2.result (g.S.Append.written c.args.sink.now) (g.S.Append.written c.write_all.new.self) (g.S.Append.written c.write_all-2.new.self) c.args.count c.args.bytes.now (rw c.zeros.ensures at c.in_ok-write_all.ensures.ok) c.write_all-2.ensures.err
