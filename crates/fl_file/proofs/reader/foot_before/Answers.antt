use Rattle.std.proofs.Common.{◌≡◌, ◌∙◌, ◌+◌, ◌-◌, arith, drop, length, rules, subst, sym, take}
use Rattle.std.proofs.lemmas.Result.{err_from_is_err_and}
use Rattle.fl_file.specs.Foot.{foot_parts}
use Rattle.fl_file.specs.FootReading.{Gives}
use Rattle.fl_file.specs.FileReading.{foot_before}
use Rattle.fl_file.proofs.ReaderLaws.{foot_by_tail, given_from, no_foot_by_end, refused_from}
use Rattle.fl_file.proofs.reader.foot_before.Goals as goal

pub returns-in_err-size-clause-foot : goal.returns-in_err-size-clause-foot
returns-in_err-size-clause-foot g c = λ bytes known within.
    let p = err_from_is_err_and c.from_residual-in_err-size.result c.from_residual-in_err-size.ensures.1 in
    let len : length c.read_at.new.room ≡ 28 = search rules in
    let stands = rw known at c.in_ok-read_at.ensures.read in
    let last : c.read_at.new.room ≡ take 28 (drop (c.args.end - 28) bytes) = rw len at stands.is in
    rw (p.1, p.2) (refused_from (g.R.ReadAt.can_fail c.args.source.now) c.in_err-size.field-0.0 (foot_before bytes c.args.end) (no_foot_by_end bytes c.read_at.new.room c.args.end c.in_err-size.field-0.0 c.requires within last (sym c.in_err-size.ensures.exact)))

pub returns-clause-foot : goal.returns-clause-foot
returns-clause-foot g c = λ bytes known within.
    let len : length c.read_at.new.room ≡ 28 = search rules in
    let stands = rw known at c.in_ok-read_at.ensures.read in
    let last : c.read_at.new.room ≡ take 28 (drop (c.args.end - 28) bytes) = rw len at stands.is in
    let size = c.in_ok-size.size in
    let range = c.in_ok-size.ensures.range in
    let read = c.in_ok-bytes.ensures.read bytes (c.in_ok-read_at.ensures.contents ∙ known) (omega (arith, range.2)) in
    let tail : c.in_ok-bytes.bytes.items ≡ take (size + 12) (drop (c.args.end - 12 - size) bytes) = cc in
    let same = foot_by_tail bytes c.read_at.new.room c.in_ok-bytes.bytes.items c.args.end size c.requires within last (sym c.in_ok-size.ensures.exact) range.0 range.2 tail in
    given_from (g.R.ReadAt.can_fail c.args.source.now) foot_parts c.foot_with_len.result (foot_before bytes c.args.end) (subst (λ r. Gives foot_parts c.foot_with_len.result r) (sym same) (rw c.deref.ensures.value at c.foot_with_len.ensures))
