use Rattle.std.proofs.Common.{◌≡◌, ◌≤◌, ◌/◌, ◌*◌, ◌∙◌, arith, length}
use Rattle.fl_file.specs.Foot.{foot_parts}
use Rattle.fl_file.proofs.CutAgain.{last_lies}
use Rattle.fl_file.proofs.ReaderLaws.{begun_len}
use Rattle.fl_file.proofs.reader.Reader.recover.Goals as goal

pub returns-clause-reader : goal.returns-clause-reader
returns-clause-reader g c = λ bytes known.
    let all : c.in_ok-len.len ≡ length bytes = begun_len bytes c.in_ok-len.len (c.in_ok-len.ensures.begun bytes known) in
    let within : 64 * (c.in_ok-len.len / 64) ≤ length bytes = omega (arith, all) in
    let reads = c.in_ok-len.ensures.contents ∙ known in
    record {
      reads = c.in_ok-foot.ensures.contents ∙ reads;
      places = last_lies bytes (c.in_ok-len.len / 64) (foot_parts c.in_ok-foot.foot) within (c.in_ok-foot.ensures.foot bytes reads within);
    }
