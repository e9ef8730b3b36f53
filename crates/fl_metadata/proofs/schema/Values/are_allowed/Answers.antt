use Rattle.std.proofs.Common.{None, map, sym, arith}
use Rattle.std.specs.Prelude.{option_map}
use Rattle.std.specs.List.{slice_index_or}
use Rattle.std.proofs.Math.ListN.{get_or-map}
use Rattle.fl_metadata.specs.WireReading.{seen}
use Rattle.fl_metadata.specs.Schemas.{kind_at, is_within, are_within}
use Rattle.fl_metadata.proofs.SchemaSteps.{one_over, none_over}
use Rattle.fl_metadata.proofs.schema.Values.are_allowed.Goals as goal

pub returns-then-not-allows : goal.returns-then-not-allows
unfolding are_within
returns-then-not-allows c = sym (one_over (λ tag. is_within (kind_at c.args.schema.now tag) (slice_index_or (map (option_map seen) c.args.self.now.last) tag None)) 0 7 c.loop-tag.tag (omega arith) (omega arith) (cc (get_or-map (option_map seen) c.args.self.now.last c.loop-tag.tag None)))

pub returns : goal.returns
unfolding are_within
returns c = sym (none_over (λ tag. is_within (kind_at c.args.schema.now tag) (slice_index_or (map (option_map seen) c.args.self.now.last) tag None)) 0 7 (λ k lt. c.loop-tag.invariant k (omega arith)))
