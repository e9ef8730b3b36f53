use Rattle.std.proofs.Common.{◌≡◌, ◌≤◌, ◌∙◌, arith, length, subst, IsTrue}
use Rattle.fl_file.specs.Foot.{foot_parts}
use Rattle.fl_file.specs.FootReading.{lie_between}
use Rattle.fl_file.proofs.ReaderLaws.{begun_len, foot_lies}
use Rattle.fl_file.proofs.reader.Reader.open.Goals as goal

pub returns-clause-reader : goal.returns-clause-reader
returns-clause-reader g c = λ bytes known.
    let begins = c.in_ok-len.ensures.begun bytes known in
    let all : c.in_ok-len.len ≡ length bytes = begun_len bytes c.in_ok-len.len begins in
    let within : c.in_ok-len.len ≤ length bytes = omega (arith, all) in
    let reads = c.in_ok-len.ensures.contents ∙ known in
    let read = c.in_ok-foot.ensures.foot bytes reads within in
    record {
      reads = c.in_ok-foot.ensures.contents ∙ reads;
      places = subst (λ n. IsTrue (lie_between 4 n c.in_ok-foot.foot.chunks.items)) all (foot_lies bytes c.in_ok-len.len (foot_parts c.in_ok-foot.foot) read);
    }
