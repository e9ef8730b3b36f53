use Rattle.std.proofs.Common.{◌+◌, ◌∙◌, length, unwrap_or, refl, ap, arith}
use Rattle.std.specs.Option.{option_copied}
use Rattle.fl_patches.specs.PatchMaps.{patched_in}
use Rattle.fl_bitpacking.specs.Filtered.{slots_of}
use Rattle.fl_bitpacking.proofs.FilteredLaws.{block_pushed, length-slots_of, part_fits, slot_is}
use Rattle.fl_bitpacking.proofs.compute.filter.Filtering.push_part.Goals as goal

pub patch_part-requires-clause-patches : goal.patch_part-requires-clause-patches
patch_part-requires-clause-patches g c =
    let f = c.args.self in
    let kept = c.read_block.auto.items in
    let within = c.requires.within in
    part_fits (option_copied f.patches) g.T.NativePType.PTYPE g.T.NativePType.PTYPE _ f.blocks.len refl (omega arith) c.requires.patches

pub returns-clause-kept : goal.returns-clause-kept
returns-clause-kept g c =
    let f = c.args.self in
    let from = c.args.from in
    let value = g.T.Number.value in
    let kept = c.read_block.auto.items in
    let patched = c.patch_part.auto.items in
    let within = c.requires.within in
    let slots = length-slots_of g.T.NativePType.PTYPE c.args.reader.now.bytes f in
    let long = c.requires.long in
    block_pushed value f.bits.now (slots_of g.T.NativePType.PTYPE c.args.reader.now.bytes f) from (length c.args.items.now) c.patch_part.new.items c.args.taken.now.items c.push_kept.new.taken.items (omega arith) (omega arith) (omega arith)
    (λ i h set. c.patch_part.ensures i (omega arith) ∙ ap (unwrap_or (patched_in (option_copied f.patches) (from + i))) (c.read_block.ensures.items i h set) ∙ slot_is g.T.NativePType.PTYPE c.args.reader.now.bytes f (from + i) (omega arith))
    c.in_ok-push_kept.ensures c.requires.begun
