use Rattle.std.proofs.Common.{◌≡◌, ◌++◌, ◌+◌, List, Result, Ok, Err, OnOk, if◌then◌else◌, is_ok, length, map, arith, rules, subst, ap, sym, ◌∙◌}
use Rattle.std.specs.Prelude.{AllPairs, ◌<ℤ◌}
use Rattle.std.proofs.lemmas.List.{length-map, map-append}
use Rattle.fl_codec.specs.ForwardFill.{Reset, fill_forward}
use Rattle.fl_codec.specs.Parts.{items_of_primitive}
use Rattle.fl_codec.specs.Distinct.{distinct}
use Rattle.fl_codec.specs.Dictionaries.{chunk_dictionary, dictionaries_to, dictionary_index, dictionary_indices_to, items_in_chunk}
use Rattle.fl_codec.proofs.ChunkedRuns.{indices_more, values_more}
use Rattle.fl_codec.proofs.DictionaryLaws.{items_long, ranks_are}
use Rattle.fl_codec.proofs.Rising.{distinct_few, distinct_rises}
use Rattle.fl_codec.proofs.rle.dictionary.push_chunk.Goals as goal

-- what holds either way
either_way : {T E P : Type 0} (r : Result T E) → P → OnOk r P
either_way (Ok x) h = h
either_way (Err e) h = tt

-- a list after the items that an `Ok` says were appended
appended : {T E V : Type 0} (r : Result T E) (new old more all : List V) → new ≡ (if is_ok r then old ++ more else old) → old ++ more ≡ all → OnOk r (new ≡ all)
appended (Ok x) new old more all now whole = now ∙ whole
appended (Err e) new old more all now whole = tt

pub write_ranks-requires : goal.write_ranks-requires
write_ranks-requires g c =
    let value = g.T.Number.value in
    let item = fill_forward Reset (items_of_primitive c.args.array.now) in
    let made : map value c.as_slice.result.now ≡ chunk_dictionary item c.args.k = ap (map value) c.as_slice.ensures.value ∙ (c.in_ok-distinct_of.ensures ∙ ap distinct c.requires.items) in
    let long = length-map c.as_slice.result.now value in
    let same : length (map value c.as_slice.result.now) ≡ length (chunk_dictionary item c.args.k) = ap length made in
    let few = distinct_few (items_in_chunk item c.args.k) in
    let all = items_long item c.args.k in
    (search rules, (subst (λ xs. AllPairs (λ x y. x <ℤ y) xs) (sym made) (distinct_rises (items_in_chunk item c.args.k)), omega arith))

pub returns-clause-values : goal.returns-clause-values
returns-clause-values g c =
    let value = g.T.Number.value in
    let items = items_of_primitive c.args.array.now in
    let item = fill_forward Reset items in
    let k = c.args.k in
    let made : map value c.as_slice-2.result.now ≡ chunk_dictionary item k = ap (map value) c.as_slice-2.ensures.value ∙ (c.in_ok-distinct_of.ensures ∙ ap distinct c.requires.items) in
    either_way c.extend_from_slice-2.result
    (ap (map value) c.in_ok-extend_from_slice.ensures.items
    ∙ (map-append value c.args.parts.now.values.items c.as_slice-2.result.now
    ∙ (ap (λ xs. xs ++ map value c.as_slice-2.result.now) c.requires.values
    ∙ (ap (λ xs. dictionaries_to items k ++ xs) made ∙ sym (values_more (chunk_dictionary item) k)))))

pub returns-clause-indices : goal.returns-clause-indices
returns-clause-indices g c =
    let value = g.T.Number.value in
    let items = items_of_primitive c.args.array.now in
    let item = fill_forward Reset items in
    let k = c.args.k in
    let made : map value c.as_slice.result.now ≡ distinct (map value c.args.items.now) = ap (map value) c.as_slice.ensures.value ∙ c.in_ok-distinct_of.ensures in
    appended c.extend_from_slice-2.result c.extend_from_slice-2.new.self.items c.args.parts.now.indices.items c.write_ranks.new.ranks (dictionary_indices_to items (k + 1)) c.extend_from_slice-2.ensures.items
    (ap (λ xs. xs ++ c.write_ranks.new.ranks) c.requires.indices
    ∙ indices_more (dictionary_index item) k c.write_ranks.new.ranks c.write_ranks.ensures.whole
    (λ q h. c.write_ranks.ensures.ranks q h ∙ ranks_are item k (map value c.args.items.now) (map value c.as_slice.result.now) c.requires.items made q h))
