use Rattle.std.proofs.Common.{Ok, sym, ap}
use Rattle.std.specs.Prelude.{Result}
use Rattle.fl_types.specs.declared.error.FastLanesError.{FastLanesError}
use Rattle.fl_column.specs.Columns.{Column}
use Rattle.fl_array.specs.FoRArrays.{offset_of_references}
use Rattle.fl_array.proofs.FoRSound.{chunked_slice}
use Rattle.fl_array.proofs.for_.FoRArray.slice_chunked.Goals as goal

pub returns-clause-column : goal.returns-clause-column
returns-clause-column c =
    let a = c.args.self.now in
    let cut = chunked_slice a c.args.references.now c.args.part c.args.kept (offset_of_references a.references) c.args.start c.args.end c.requires.same c.requires.order c.requires.range c.requires.part c.requires.kept in
    let ok : Column → Result Column FastLanesError = λ x. Ok x in
    rw (c.in_ok-references.ensures.ok, c.in_ok-encoded.ensures.ok, c.offset.ensures) (ap ok (sym cut))
