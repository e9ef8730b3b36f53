use Rattle.fl_file.proofs.WriterLaws.{finished_by}
use Rattle.fl_file.proofs.writer.Writer.finish.Goals as goal

pub returns-clause-written : goal.returns-clause-written
returns-clause-written g c = λ s has.
    finished_by g.S.Append.written c.args.self s (g.S.Append.written c.write_padded.new.sink) c.in_ok-foot.foot.items c.gap_behind-gap.result has c.in_ok-foot.ensures (rw c.as_slice-bytes.ensures.value at c.gap_behind-gap.ensures.gap) (rw c.as_slice-bytes.ensures.value at c.in_ok-write_padded.ensures.ok)
