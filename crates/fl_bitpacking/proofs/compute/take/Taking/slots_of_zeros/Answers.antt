use Rattle.std.proofs.Common.{◌+◌, ◌/◌, ◌∙◌, ap, sym, arith, get_or, unwrap_or}
use Rattle.fl_types.specs.Integers.{read_as}
use Rattle.fl_patches.specs.PatchMaps.{patched_in}
use Rattle.fl_bitpacking.specs.Blocks.{blocks_of}
use Rattle.fl_bitpacking.specs.Parts.{parts_of}
use Rattle.fl_bitpacking.proofs.Joined.{item_of_none}
use Rattle.fl_bitpacking.proofs.compute.take.Taking.slots_of_zeros.Goals as goal

pub returns : goal.returns
returns g c =
    let taking = c.args.self in
    let parts = parts_of taking.column in
    let blocks = blocks_of taking.widths in
    let long = c.in_ok-stored.ensures.long in
    let same = c.with_patches_at.ensures.long in
    record {
      even = same ∙ long;
      each = λ i h. (
          let p = get_or taking.positions.now i 0 in
          c.with_patches_at.ensures.items i (omega arith)
          ∙ ap (λ z. unwrap_or (patched_in parts.patches p) z) (c.in_ok-stored.ensures.items i (omega arith) ∙ (ap (λ t. read_as t 0) (sym c.requires.typed) ∙ item_of_none parts.ptype blocks parts.packed (parts.offset + p) (c.requires.zero ((parts.offset + p) / 1024)))));
    }
