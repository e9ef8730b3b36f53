use Rattle.std.proofs.Common.{Ok, Err, refl, ◌∙◌}
use Rattle.fl_bitpacking.specs.Encoders.{best_widths_of, widths_refusal}
use Rattle.fl_patches.proofs.Parts.{ok_same}
use Rattle.fl_array.proofs.BitPackedEncoding.{also_answered, column_between, passed_on, still_refused}
use Rattle.fl_array.proofs.bitpacking.bitpack_compress.bitpack_blocked_to_best_bit_widths.Goals as goal

pub returns-in_err-packed-clause-refusal : goal.returns-in_err-packed-clause-refusal
returns-in_err-packed-clause-refusal c = passed_on (widths_refusal c.args.array.now (best_widths_of c.args.array.now)) (Err c.in_err-packed.field-0.0) _ _ refl c.in_err-packed.ensures.refusal c.from_residual.ensures.1

pub returns-in_err-encoded-clause-refusal : goal.returns-in_err-encoded-clause-refusal
returns-in_err-encoded-clause-refusal c = still_refused (widths_refusal c.args.array.now (best_widths_of c.args.array.now)) (c.in_ok-packed.packed, c.in_ok-packed.boundaries) c.from_residual-in_err-encoded.result c.in_err-encoded.field-0.0 _ c.in_ok-packed.ensures.refusal c.from_residual-in_err-encoded.ensures.1 c.in_err-encoded.ensures

pub returns-clause-refusal : goal.returns-clause-refusal
returns-clause-refusal c = also_answered (widths_refusal c.args.array.now (best_widths_of c.args.array.now)) (Ok (c.in_ok-packed.packed, c.in_ok-packed.boundaries)) _ _ _ refl c.in_ok-packed.ensures.refusal refl

pub returns-clause-column : goal.returns-clause-column
returns-clause-column c = column_between _ c.in_ok-packed.packed _ _ (best_widths_of c.args.array.now) (ok_same _ _ c.in_ok-encoded.ensures) c.into_array.ensures c.in_ok-packed.ensures.boundaries ∙ c.in_ok-packed.ensures.column
