use Rattle.std.proofs.Common.{ap, arith, length}
use Rattle.fl_array.specs.Trees.{Tree, column}
use Rattle.fl_array.proofs.RLELaws.{kept_by_slice}
use Rattle.fl_array.proofs.rle.RLEArray.chunk_ranges.Goals as goal

pub overflow_add-first : goal.overflow_add-first
overflow_add-first c =
    let a = c.args.self.now in
    let len = c.len-len.ensures.len in
    let items = c.len-len.ensures.items in
    let range = c.requires.range in
    let order = c.requires.order in
    let shown = (kept_by_slice a c.args.start c.args.end c.prove_well_formed.ensures c.requires.order (omega arith)).shown in
    let total = c.len-total.ensures in
    let indices = ap (λ (t : Tree). length (column t).items) c.indices.ensures in
    let offset = c.offset-offset.ensures in
    omega arith

pub overflow_add-offset : goal.overflow_add-offset
overflow_add-offset c =
    let a = c.args.self.now in
    let len = c.len-len.ensures.len in
    let items = c.len-len.ensures.items in
    let range = c.requires.range in
    let shown = (kept_by_slice a c.args.start c.args.end c.prove_well_formed.ensures c.requires.order (omega arith)).shown in
    let total = c.len-total.ensures in
    let indices = ap (λ (t : Tree). length (column t).items) c.indices.ensures in
    let offset = c.offset-offset.ensures in
    omega arith

pub overflow_mul-result : goal.overflow_mul-result
overflow_mul-result c =
    let a = c.args.self.now in
    let len = c.len-len.ensures.len in
    let items = c.len-len.ensures.items in
    let range = c.requires.range in
    let order = c.requires.order in
    let shown = (kept_by_slice a c.args.start c.args.end c.prove_well_formed.ensures c.requires.order (omega arith)).shown in
    let total = c.len-total.ensures in
    let indices = ap (λ (t : Tree). length (column t).items) c.indices.ensures in
    let offset = c.offset-offset.ensures in
    omega arith

pub overflow_mul-result-2 : goal.overflow_mul-result-2
overflow_mul-result-2 c =
    let a = c.args.self.now in
    let len = c.len-len.ensures.len in
    let items = c.len-len.ensures.items in
    let range = c.requires.range in
    let within = (kept_by_slice a c.args.start c.args.end c.prove_well_formed.ensures c.requires.order (omega arith)).indices in
    let total = c.len-total.ensures in
    let indices = ap (λ (t : Tree). length (column t).items) c.indices.ensures in
    let offset = c.offset-offset.ensures in
    let last = c.chunk_count-last.ensures in
    omega arith

pub returns-clause-chunk_range : goal.returns-clause-chunk_range
returns-clause-chunk_range c =
    let a = c.args.self.now in
    let len = c.len-len.ensures.len in
    let items = c.len-len.ensures.items in
    let range = c.requires.range in
    rw (c.chunk_count-last.ensures, c.offset-offset.ensures) (kept_by_slice a c.args.start c.args.end c.prove_well_formed.ensures c.requires.order (omega arith)).chunks

pub returns-clause-index_range : goal.returns-clause-index_range
returns-clause-index_range c =
    let a = c.args.self.now in
    let len = c.len-len.ensures.len in
    let items = c.len-len.ensures.items in
    let range = c.requires.range in
    rw (c.chunk_count-last.ensures, c.offset-offset.ensures) (kept_by_slice a c.args.start c.args.end c.prove_well_formed.ensures c.requires.order (omega arith)).indices
