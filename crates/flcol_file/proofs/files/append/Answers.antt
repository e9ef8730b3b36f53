use Rattle.std.proofs.Common.{◌≡◌, ◌≢◌, ◌∙◌, ℕ, List, Bool, true, false, not, ap, refl, rules, subst, sym}
use denote.Enum.Bare.{same_true, sameb}
use Rattle.fl_types.specs.contracts.dtype.Nullability as nullabilities
use Rattle.fl_types.specs.contracts.dtype.PType as ptypes
use Rattle.fl_types.specs.declared.dtype.DType.TheVariants.{Primitive}
use Rattle.fl_types.specs.Validities.{nullability_of}
use Rattle.fl_file.specs.Files.{HasWritten, with_chunk}
use Rattle.fl_file.specs.declared.statistics.ChunkStatistics.{ChunkStatistics}
use Rattle.flcol_file.proofs.FileLaws.{types_same}
use Rattle.flcol_file.proofs.files.append.Goals as goal

not_other : (b r : Bool) → r ≡ not b → r ≡ false → b ≡ true
not_other true r h k = refl
not_other false r h k = absurd (let wrong : false ≡ true = sym k ∙ h in cc)

pub returns-clause-appended : goal.returns-clause-appended
returns-clause-appended g c = λ s has.
    let chunk = c.in_ok-chunk.ensures in
    let ptype = same_true ptypes.the_type (search rules) c.ptype.result c.ptype-2.result (not_other (sameb ptypes.the_type c.ptype.result c.ptype-2.result) c.ne.result c.ne.ensures c.if-ne.false) in
    let nullability = same_true nullabilities.the_type (search rules) c.nullability.result c.nullability-else-ne.result (not_other (sameb nullabilities.the_type c.nullability.result c.nullability-else-ne.result) c.ne-else-ne.result c.ne-else-ne.ensures c.if-ne-2.false) in
    let written = subst (λ (x : ChunkStatistics). HasWritten g.S.Append.written c.append.new.self (with_chunk s (c.in_ok-chunk.chunk.items, x))) c.of.ensures.exact (subst (λ (b : List ℕ). HasWritten g.S.Append.written c.append.new.self (with_chunk s (b, c.of.result))) c.as_slice.ensures.value (c.in_ok-append.ensures.written s has)) in
    let typed = types_same c.args.array.now.ptype s.ptype (nullability_of c.args.array.now.validity) s.nullability
    (sym c.ptype-2.ensures ∙ (sym ptype ∙ (c.ptype.ensures ∙ has.ptype)))
    (sym c.nullability-else-ne.ensures ∙ (sym nullability ∙ c.nullability.ensures s has)) in
    (c.in_ok-chunk.chunk.items, (chunk.0, chunk.1, chunk.2 ∙ c.in_ok-encoded.ensures.column), written, typed)

pub returns-clause-typed : goal.returns-clause-typed
returns-clause-typed g c = λ s has other.
    let ptype = same_true ptypes.the_type (search rules) c.ptype.result c.ptype-2.result (not_other (sameb ptypes.the_type c.ptype.result c.ptype-2.result) c.ne.result c.ne.ensures c.if-ne.false) in
    let nullability = same_true nullabilities.the_type (search rules) c.nullability.result c.nullability-else-ne.result (not_other (sameb nullabilities.the_type c.nullability.result c.nullability-else-ne.result) c.ne-else-ne.result c.ne-else-ne.ensures c.if-ne-2.false) in
    absurd (other (types_same c.args.array.now.ptype s.ptype (nullability_of c.args.array.now.validity) s.nullability
    (sym c.ptype-2.ensures ∙ (sym ptype ∙ (c.ptype.ensures ∙ has.ptype)))
    (sym c.nullability-else-ne.ensures ∙ (sym nullability ∙ c.nullability.ensures s has))))
