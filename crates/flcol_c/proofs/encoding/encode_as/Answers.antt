use Rattle.std.proofs.Common.{Ok}
use Rattle.fl_encode.specs.SchemeShapes.{shape}
use Rattle.flcol_c.specs.Encoding.{GivesEncoding}
use Rattle.flcol_c.proofs.EncodeLaws.{scheme_refused}
use Rattle.flcol_c.proofs.StatusLaws.{from_refusal}
use Rattle.flcol_c.proofs.encoding.encode_as.Goals as goal

pub returns-in_err-encode : goal.returns-in_err-encode
returns-in_err-encode c =
    let t = c.args.array.now in
    let scheme = shape c.args.scheme.now in
    let e = c.in_err-encode.field-0.0 in
    from_refusal (GivesEncoding (Ok scheme) t) c.from_residual-in_err-encode.result e c.from_residual-in_err-encode.ensures.1
    (scheme_refused t scheme c.in_ok-plain.plain e c.in_ok-plain.ensures.0 c.in_ok-plain.ensures.1 c.in_err-encode.ensures)
