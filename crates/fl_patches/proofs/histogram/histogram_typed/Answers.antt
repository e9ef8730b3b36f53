use Rattle.std.proofs.Common.{◌≡◌, [], Ok, ap, drop, map, sym, arith, length, ◌+◌, ◌∙◌}
use Rattle.std.proofs.lemmas.List.{length-map}
use Rattle.fl_types.specs.Integers.{bits_of_type}
use Rattle.fl_patches.proofs.Gathers.{covered_slice}
use Rattle.fl_patches.proofs.Histograms.{histogram_all, length-histogram}
use Rattle.fl_types.proofs.Refused.{no_memory}
use Rattle.fl_patches.proofs.histogram.histogram_typed.Goals as goal

pub count_items-requires-clause-covers : goal.count_items-requires-clause-covers
count_items-requires-clause-covers g c = covered_slice g.T.Number.value c.args.array.now.validity c.validity.result.now c.as_slice-items.result.now c.args.array.now.slots c.as_slice-items.ensures c.validity.ensures.value c.validity.ensures.covers

pub returns-clause-counts : goal.returns-clause-counts
returns-clause-counts g c =
    let room : c.in_ok-entries.entries.len ≡ bits_of_type g.T.NativePType.PTYPE + 1 = omega (arith, c.in_ok-entries.entries.ok, ap length c.in_ok-entries.ensures, length-histogram g.T.NativePType.PTYPE []) in
    ap (λ xs. Ok xs) (histogram_all g.T.NativePType.PTYPE c.args.array.now.ptype c.args.array.now.validity c.validity.result.now (map g.T.Number.value c.as_slice-items.result.now) c.args.array.now.slots (length c.as_slice-items.result.now) c.in_ok-entries.entries.len c.count_items.new.entries (drop (length c.count_items.new.entries) c.in_ok-entries.entries.items)
    c.requires c.validity.ensures.value c.as_slice-items.ensures c.validity.ensures.covers (sym (length-map c.as_slice-items.result.now g.T.Number.value)) room c.count_items.ensures)

pub returns-in_err-entries-clause-counts : goal.returns-in_err-entries-clause-counts
returns-in_err-entries-clause-counts g c = no_memory _ c.from_residual.result _ c.from_residual.ensures.1

pub returns-clause-long : goal.returns-clause-long
returns-clause-long g c =
    let room : c.in_ok-entries.entries.len ≡ bits_of_type g.T.NativePType.PTYPE + 1 = omega (arith, c.in_ok-entries.entries.ok, ap length c.in_ok-entries.ensures, length-histogram g.T.NativePType.PTYPE []) in
    sym (ap length (histogram_all g.T.NativePType.PTYPE c.args.array.now.ptype c.args.array.now.validity c.validity.result.now (map g.T.Number.value c.as_slice-items.result.now) c.args.array.now.slots (length c.as_slice-items.result.now) c.in_ok-entries.entries.len c.count_items.new.entries (drop (length c.count_items.new.entries) c.in_ok-entries.entries.items)
    c.requires c.validity.ensures.value c.as_slice-items.ensures c.validity.ensures.covers (sym (length-map c.as_slice-items.result.now g.T.Number.value)) room c.count_items.ensures)) ∙ length-histogram c.args.array.now.ptype _
