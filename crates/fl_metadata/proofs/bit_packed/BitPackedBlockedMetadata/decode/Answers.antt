use Rattle.std.proofs.Common.{◌≡◌, ◌∙◌, Err, ap, rules, sym}
use Rattle.fl_metadata.specs.Schemas.{seen_values}
use Rattle.fl_metadata.specs.Messages.{embedded_of}
use Rattle.fl_metadata.proofs.Embedded.{blocked_fails, blocked_read, blocked_untyped}
use Rattle.fl_metadata.proofs.bit_packed.BitPackedBlockedMetadata.decode.Goals as goal

pub returns-in_err-patches : goal.returns-in_err-patches
returns-in_err-patches c =
    let refused : c.from_residual-in_err-patches.result ≡ Err c.in_err-patches.field-0.0 = search rules in
    refused ∙ sym (blocked_fails c.args.bytes.now (seen_values c.in_ok-values.values) c.in_err-patches.field-0.0 c.in_ok-values.ensures.is (sym (ap embedded_of c.message.ensures) ∙ (sym c.embedded.ensures ∙ c.in_err-patches.was)))

pub returns-in_err-block_offsets : goal.returns-in_err-block_offsets
returns-in_err-block_offsets c =
    let refused : c.from_residual-in_err-block_offsets.result ≡ Err c.in_err-block_offsets.field-0.0 = search rules in
    refused ∙ sym (blocked_untyped c.args.bytes.now (seen_values c.in_ok-values.values) c.in_ok-patches.patches c.in_err-block_offsets.field-0.0 c.in_ok-values.ensures.is (sym (ap embedded_of c.message.ensures) ∙ (sym c.embedded.ensures ∙ c.in_ok-patches.was)) (rw c.number.ensures at (sym c.type_of_number.ensures ∙ c.in_err-block_offsets.was)))

pub returns : goal.returns
returns c =
    rw c.small_number.ensures (sym (blocked_read c.args.bytes.now (seen_values c.in_ok-values.values) c.in_ok-patches.patches c.in_ok-block_offsets.block_offsets c.in_ok-values.ensures.is (sym (ap embedded_of c.message.ensures) ∙ (sym c.embedded.ensures ∙ c.in_ok-patches.was)) (rw c.number.ensures at (sym c.type_of_number.ensures ∙ c.in_ok-block_offsets.was))))
