use Rattle.std.proofs.Common.{◌∙◌, sym}
use Rattle.fl_bitpacking.proofs.RefusedNegatives.{refused_after}
use Rattle.fl_bitpacking.proofs.bitpack_compress.encoding.encode_blocked.Goals as goal

pub returns-in-Some-clause-refusal : goal.returns-in-Some-clause-refusal
returns-in-Some-clause-refusal c = refused_after _ _ _ c.in-Some.refusal c.refusal_unless_negative.result (sym c.list_refusal.ensures ∙ c.in-Some.is) c.refusal_unless_negative.ensures
