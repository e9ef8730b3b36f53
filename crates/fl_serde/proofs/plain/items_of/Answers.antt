use Rattle.std.proofs.Common.{◌≡◌, ◌∙◌, ◌+◌, ◌<◌, ◌≤◌, ◌++◌, ℕ, List, None, [], ◌∷◌, ap, get_or, length, map, option_map, subst, sym, take}
use Rattle.std.proofs.lemmas.List.{map_push, take_all, take_more}
use Rattle.fl_column.specs.Columns.{column_of_primitive}
use Rattle.fl_serde.proofs.plain.items_of.Goals as goal

-- one item more that was read
item_more : {A B : Type 0} (f : A → B) (old new : List A) (x : A) (items : List B) (i : ℕ) (d : B) → i < length items → new ≡ old ++ x ∷ [] → map f old ≡ take i items → f x ≡ get_or items i d → map f new ≡ take (i + 1) items
item_more f old new x items i d here added before is =
    ap (map f) added ∙ map_push f old x ∙ ap (λ l. l ++ f x ∷ []) before ∙ ap (λ y. take i items ++ y ∷ []) is ∙ sym (take_more items i d here)

pub loop-i-init : goal.loop-i-init
loop-i-init g c = ap (map (option_map g.T.Number.value)) c.in_ok-items.ensures.items

pub loop-i-preserved : goal.loop-i-preserved
loop-i-preserved g c =
    let items = (column_of_primitive c.args.array.now).items in
    let here : c.loop-i.i < length items = subst (λ n. c.loop-i.i < n) c.len-i-end.ensures.items c.loop-i-test.true in
    item_more (option_map g.T.Number.value) c.loop-i.items.items c.push.new.self.items c.item_at.result items c.loop-i.i None here c.in_ok-push.ensures.items c.loop-i.invariant c.item_at.ensures

pub returns : goal.returns
returns g c =
    let items = (column_of_primitive c.args.array.now).items in
    let whole : length items ≤ c.loop-i.i = subst (λ n. n ≤ c.loop-i.i) c.len-i-end.ensures.items c.loop-i-test.false in
    c.loop-i.invariant ∙ take_all c.loop-i.i items whole

pub item_at-requires : goal.item_at-requires
item_at-requires g c = record {
  typed = c.requires;
  range = subst (λ n. c.loop-i.i < n) c.len-i-end.ensures.slots c.loop-i-test.true;
}
