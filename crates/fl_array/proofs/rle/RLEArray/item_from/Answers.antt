use Rattle.std.proofs.Common.{ap, sym, ◌∙◌, arith}
use Rattle.fl_types.specs.Values.{ScalarParts, scalar_parts, integer_of, ptype_of_value}
use Rattle.fl_array.proofs.RLELaws.{named_item, none_is, null_is_nullable, null_item, some_is}
use Rattle.fl_array.proofs.rle.RLEArray.item_from.Goals as goal

pub returns-then-is_null : goal.returns-then-is_null
returns-then-is_null c =
    let len = c.len-len.ensures.len in
    let items = c.len-len.ensures.items in
    let range = c.requires.range in
    let null = sym c.is_null.ensures ∙ c.if-is_null.true in
    rw c.dtype.ensures at c.null.ensures
    ∙ null_item c.args.self.now c.args.i (scalar_parts c.args.index) (scalar_parts c.args.value) c.prove_well_formed.ensures (omega arith) c.requires.index (ap (λ (x : ScalarParts). x.dtype) c.requires.value) (none_is (scalar_parts c.args.index).value null) (null_is_nullable c.args.index null)

pub returns-else-is_null : goal.returns-else-is_null
returns-else-is_null c =
    let len = c.len-len.ensures.len in
    let items = c.len-len.ensures.items in
    let range = c.requires.range in
    let there = some_is (scalar_parts c.args.index).value (sym c.is_null.ensures ∙ c.if-is_null.false) in
    let made = rw (c.nullability.ensures, c.dtype-else-is_null.ensures) at c.primitive.ensures in
    made ∙ named_item c.args.self.now c.args.i (scalar_parts c.args.index) (scalar_parts c.args.value) (ptype_of_value c.in-Some.integer) there.0 (integer_of c.in-Some.integer) c.prove_well_formed.ensures (omega arith) c.requires.index c.requires.value there.1 c.in-Some.ensures.value c.in-Some.ensures.typed
