use Rattle.std.proofs.Common.{◌≡◌, ◌+◌, ◌*◌, IsTrue, map, unwrap_or, take, arith, subst, ap, refl, ◌∙◌, inl, inr}
use Rattle.std.proofs.lemmas.Bool.{cases_lt}
use Rattle.std.proofs.lemmas.List.{length-map}
use Rattle.fl_types.specs.Integers.{fits, pattern_of}
use Rattle.fl_types.specs.Validities.{items_of}
use Rattle.fl_types.specs.declared.validity.Validity.TheVariants.{Array}
use Rattle.fl_codec.specs.Chunks.{chunk}
use Rattle.fl_codec.specs.ForwardFill.{filled_from, last_some}
use Rattle.fl_codec.proofs.ForwardFillLaws.{last_of_chunk, set_chunk}
use Rattle.fl_codec.proofs.fill_forward.fill_chunk_by_words.Goals as goal

pub loop-j-preserved : goal.loop-j-preserved
loop-j-preserved g c =
    let value = g.T.Number.value in
    let ptype = g.T.NativePType.PTYPE in
    let items = chunk c.args.k (items_of (Array c.args.bits.now) (map value c.args.items.now)) in
    let next : 64 * c.loop-j.j + 64 ≡ 64 * (c.loop-j.j + 1) = omega arith in
    let first = value c.args.before in
    let carried = c.loop-j.invariant.last in
    record {
      last = c.fill_part-last.ensures.last first carried ∙ ap (λ n. unwrap_or (last_some (take n items)) first) next;
      done = λ q h. elim (cases_lt q (64 * c.loop-j.j)) [
        | inl below ↦ c.fill_part-last.ensures.others q below ∙ c.loop-j.invariant.done q below
        | inr above ↦ c.fill_part-last.ensures.block first carried q above (omega arith)
      ];
      fit = λ q h. elim (cases_lt q (64 * c.loop-j.j)) [
        | inl below ↦ c.loop-j.invariant.fit q below
        | inr above ↦ c.fill_part-last.ensures.fits first carried q above (omega arith)
      ];
      whole = c.fill_part-last.ensures.whole;
    }

pub returns-clause-last : goal.returns-clause-last
returns-clause-last g c =
    let value = g.T.Number.value in
    let items = items_of (Array c.args.bits.now) (map value c.args.items.now) in
    let full : 64 * c.loop-j.j ≡ 1024 = omega arith in
    c.loop-j.invariant.last ∙ ap (λ x. unwrap_or x (value c.args.before)) (ap (λ n. last_some (take n (chunk c.args.k items))) full ∙ last_of_chunk items c.args.k)

pub returns-then-are_all_set-clause-block : goal.returns-then-are_all_set-clause-block
returns-then-are_all_set-clause-block g c q h =
    let value = g.T.Number.value in
    let whole = set_chunk c.args.bits.now (map value c.args.items.now) c.args.k (rw length-map c.requires.covers) (rw length-map c.requires.chunk) (c.if-are_all_set.ensures refl) in
    c.fill_whole_chunk.ensures.block q h ∙ ap (λ xs. pattern_of g.T.NativePType.PTYPE (filled_from (value c.args.before) xs q)) whole

pub returns-then-are_all_set-clause-fits : goal.returns-then-are_all_set-clause-fits
returns-then-are_all_set-clause-fits g c q h =
    let value = g.T.Number.value in
    let whole = set_chunk c.args.bits.now (map value c.args.items.now) c.args.k (rw length-map c.requires.covers) (rw length-map c.requires.chunk) (c.if-are_all_set.ensures refl) in
    subst (λ xs. IsTrue (fits g.T.NativePType.PTYPE (filled_from (value c.args.before) xs q))) whole (c.fill_whole_chunk.ensures.fits q h)

pub returns-then-are_all_set-clause-last : goal.returns-then-are_all_set-clause-last
returns-then-are_all_set-clause-last g c =
    let value = g.T.Number.value in
    let whole = set_chunk c.args.bits.now (map value c.args.items.now) c.args.k (rw length-map c.requires.covers) (rw length-map c.requires.chunk) (c.if-are_all_set.ensures refl) in
    c.fill_whole_chunk.ensures.last ∙ ap (λ xs. unwrap_or (last_some xs) (value c.args.before)) whole
