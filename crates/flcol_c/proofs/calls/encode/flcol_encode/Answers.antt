use Rattle.std.proofs.Common.{◌≡◌, ℤ, w32, to_z, of_z, sym, subst, rules, Option, Some}
use Rattle.fl_array.specs.Trees.{Tree}
use Rattle.flcol_c.specs.Encoding.{IsEncodingStatus}
use Rattle.flcol_c.proofs.EncodeLaws.{encoding_status}
use Rattle.flcol_c.proofs.calls.encode.flcol_encode.Goals as goal

pub returns-clause-status : goal.returns-clause-status
returns-clause-status c =
    let same : to_z w32 (of_z w32 c.keep.result) ≡ c.keep.result = search rules in
    let held : c.args.array.now.tree ≡ Some c.in-Some.source.now = c.in-Some.ensures.value in
    let kept = encoding_status c.args.scheme.now c.in-Some.source.now c.encode_by.result c.keep.result c.encode_by.ensures.given c.encode_by.ensures.at_once c.keep.ensures.status in
    subst (λ (status : ℤ). IsEncodingStatus c.args.scheme.now c.args.array.now.tree status) (sym same)
    (subst (λ (h : Option Tree). IsEncodingStatus c.args.scheme.now h c.keep.result) (sym held) kept)
