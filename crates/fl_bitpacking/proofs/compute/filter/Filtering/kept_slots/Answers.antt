use Rattle.std.proofs.Common.{◌≡◌, ◌∙◌, map, refl, ap, ℕ, arith}
use Rattle.std.specs.Option.{option_copied}
use Rattle.fl_bitpacking.specs.Filtered.{count_before, items_before, slots_of}
use Rattle.fl_bitpacking.proofs.FilteredLaws.{blocks_pushed, none_kept}
use Rattle.fl_bitpacking.proofs.compute.filter.Filtering.kept_slots.Goals as goal

pub loop-j-init : goal.loop-j-init
loop-j-init g c =
    let inside = c.requires.readable.offset in
    let none : 0 ≡ items_before c.args.self 0 = omega arith in
    record {
      taken = rw c.in_ok-taken.ensures.items (none_kept g.T.Number.value g.T.NativePType.PTYPE c.args.reader.now.bytes c.args.self inside);
      before = c.patches_before_first-before.ensures ∙ ap (λ (n : ℕ). count_before n (option_copied c.args.self.patches)) none;
      read = record {
        bytes = refl;
        blocks = omega arith;
      };
    }

pub returns-clause-slots : goal.returns-clause-slots
returns-clause-slots g c =
    let f = c.args.self in
    let past = c.loop-j-test.false in
    let ended = c.count-j-end.ensures in
    let long = c.requires.long in
    let inside = c.requires.readable.offset in
    blocks_pushed f.bits.now (slots_of g.T.NativePType.PTYPE c.args.reader.now.bytes f) (map g.T.Number.value c.loop-j.taken.items) (items_before f c.loop-j.j) (omega arith) c.loop-j.invariant.taken
