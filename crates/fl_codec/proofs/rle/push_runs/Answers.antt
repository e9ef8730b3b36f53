use Rattle.std.proofs.Common.{◌≡◌, ◌++◌, ◌+◌, List, Result, Ok, Err, OnOk, if◌then◌else◌, is_ok, ap, ◌∙◌}
use Rattle.std.proofs.lemmas.Result.{err_from_is_err_and}
use Rattle.fl_codec.specs.Parts.{items_of_primitive}
use Rattle.fl_codec.specs.Runs.{indices_to}
use Rattle.fl_codec.proofs.rle.push_runs.Goals as goal

-- what holds either way
either_way : {T E P : Type 0} (r : Result T E) → P → OnOk r P
either_way (Ok x) h = h
either_way (Err e) h = tt

-- a list after the items that an `Ok` says were appended
appended : {T E V : Type 0} (r : Result T E) (new old more all : List V) → new ≡ (if is_ok r then old ++ more else old) → old ++ more ≡ all → OnOk r (new ≡ all)
appended (Ok x) new old more all now whole = now ∙ whole
appended (Err e) new old more all now whole = tt

pub returns-clause-values : goal.returns-clause-values
returns-clause-values g c = either_way c.extend_from_slice.result c.in_ok-push_chunk.ensures.values

pub returns-clause-indices : goal.returns-clause-indices
returns-clause-indices g c = appended c.extend_from_slice.result c.extend_from_slice.new.self.items c.args.indices.now.items c.push_chunk.new.positions (indices_to (items_of_primitive c.args.array.now) (c.args.k + 1)) c.extend_from_slice.ensures.items (ap (λ xs. xs ++ c.push_chunk.new.positions) c.requires.indices ∙ c.in_ok-push_chunk.ensures.indices)

pub returns-in_err-push_chunk-clause-values : goal.returns-in_err-push_chunk-clause-values
returns-in_err-push_chunk-clause-values g c = let failed = err_from_is_err_and c.from_residual.result c.from_residual.ensures.1 in rw failed.1 tt

pub returns-in_err-push_chunk-clause-indices : goal.returns-in_err-push_chunk-clause-indices
returns-in_err-push_chunk-clause-indices g c = let failed = err_from_is_err_and c.from_residual.result c.from_residual.ensures.1 in rw failed.1 tt
