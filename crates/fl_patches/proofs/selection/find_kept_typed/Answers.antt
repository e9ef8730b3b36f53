use Rattle.std.proofs.Common.{◌≡◌, ◌+◌, ◌<◌, Some, false, length, map, refl, ap, sym, ◌∙◌, arith}
use Rattle.std.proofs.lemmas.List.{length-map, length_push}
use Rattle.std.proofs.lemmas.Option.{get_or_from_slice_get}
use Rattle.fl_patches.specs.PatchMaps.{count_below, ranks_at}
use Rattle.fl_patches.proofs.Kept.{kept_to, kept_to_end, kept_to_no, kept_to_yes, ranks_more}
use Rattle.fl_column.specs.Numbers.{numbers_by}
use Rattle.fl_types.proofs.Refused.{no_value, memory_there}
use Rattle.fl_patches.proofs.selection.find_kept_typed.Goals as goal
use Rattle.fl_patches.proofs.selection.find_kept_typed.Goals.{then-get+in_ok-push, else-get}

pub loop-i-preserved : goal.loop-i-preserved
loop-i-preserved g c =
    let indices = numbers_by g.I.Number.value c.as_slice-indices.result.now in
    let offset = c.args.offset in
    let bits = c.args.bits.now in
    let n = length bits in
    let i = c.loop-i.i in
    let got = get_or_from_slice_get bits i c.get.result false c.get.ensures in
    let within : i < n = omega (arith, c.len-i-end.ensures) in
    let next : offset + (i + 1) ≡ offset + i + 1 = omega arith in
    let below : c.step-rank.result.1 ≡ count_below (offset + (i + 1)) indices = rw next c.step-rank.ensures.next in
    let positions = kept_to bits n i in
    let inv = c.loop-i.invariant in
    elim c.if-get.branch [
      | then-get+in_ok-push w ↦ (
          let more = kept_to_yes bits n i refl within (got ∙ w.if-get.true) in
          let items = ranks_at offset indices (map (λ j. Some j) positions) in
          let so_far : length items ≡ c.loop-i.len = length-map (map (λ j. Some j) positions) _ ∙ (length-map positions _ ∙ sym inv.len) in
          let pushed = w.in_ok-push.ensures.found items so_far inv.found in
          let rank = c.step-rank.ensures.rank in
          record {
            below = below;
            len = w.len-is ∙ (ap (λ m. m + 1) inv.len ∙ (sym (length_push positions i) ∙ ap length (sym more)));
            short = (let is = w.len-is in let short = inv.short in omega arith);
            found = rw (w.found-is, more, ranks_more offset indices positions i, ← rank) pushed;
          })
      | else-get w ↦ (
          let more = kept_to_no bits n i refl within (got ∙ w.if-get.false) in
          record {
            below = below;
            len = w.len-is ∙ (inv.len ∙ ap length (sym more));
            short = (let is = w.len-is in let short = inv.short in omega arith);
            found = rw (w.found-is, more) inv.found;
          })
    ]

pub returns-clause-found : goal.returns-clause-found
returns-clause-found g c =
    let end = kept_to_end c.args.bits.now c.loop-i.i (omega (arith, c.len-i-end.ensures)) in
    rw (← c.as_slice-indices.ensures, ← end) c.loop-i.invariant.found

pub returns-clause-len : goal.returns-clause-len
returns-clause-len g c =
    let end = kept_to_end c.args.bits.now c.loop-i.i (omega (arith, c.len-i-end.ensures)) in
    c.loop-i.invariant.len ∙ ap length end

pub returns-in_err-push-clause-found : goal.returns-in_err-push-clause-found
returns-in_err-push-clause-found g c = no_value _ _ c.from_residual.result c.from_residual.ensures.1

pub returns-in_err-push-clause-len : goal.returns-in_err-push-clause-len
returns-in_err-push-clause-len g c = no_value _ _ c.from_residual.result c.from_residual.ensures.1

pub returns-in_err-push-clause-memory : goal.returns-in_err-push-clause-memory
returns-in_err-push-clause-memory g c = memory_there c.from_residual.result _ c.from_residual.ensures.1 c.in_err-push.ensures.memory
