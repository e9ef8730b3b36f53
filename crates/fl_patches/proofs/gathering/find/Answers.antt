use Rattle.std.proofs.Common.{◌≡◌, length, arith}
use Rattle.fl_column.specs.Chunks.{chunk_count}
use Rattle.fl_patches.specs.Widths.{width_at}
use Rattle.fl_patches.proofs.Gathers.{place_in_block}
use Rattle.fl_types.proofs.Refused.{no_value}
use Rattle.fl_patches.proofs.gathering.find.Goals as goal

pub loop-block-init : goal.loop-block-init
loop-block-init g c = c.in_ok-found.ensures _

pub of_block-requires : goal.of_block-requires
of_block-requires g c = c.requires.names c.loop-block.block (omega arith)

pub loop-block-preserved : goal.loop-block-preserved
loop-block-preserved g c = c.in_ok-push_block.ensures (width_at c.args.widths) (λ i low high. place_in_block c.args.widths c.loop-block.block c.of_block.result i c.of_block.ensures low high) c.loop-block.invariant

pub returns : goal.returns
returns g c =
    let end : c.loop-block.block ≡ chunk_count (length c.args.items.now) = omega arith in
    rw end at c.loop-block.invariant

pub returns-in_err-found : goal.returns-in_err-found
returns-in_err-found g c = no_value _ _ c.from_residual.result c.from_residual.ensures.1

pub returns-in_err-push_block : goal.returns-in_err-push_block
returns-in_err-push_block g c = no_value _ _ c.from_residual-in_err-push_block.result c.from_residual-in_err-push_block.ensures.1
