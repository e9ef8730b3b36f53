use Rattle.std.proofs.Common.{◌≡◌, ℤ, w32, to_z, of_z, sym, subst, rules}
use Rattle.flcol_c.specs.Files.{IsChunkStatus}
use Rattle.flcol_c.proofs.FileLaws.{status_said}
use Rattle.flcol_c.proofs.calls.files.flcol_file_chunk.Goals as goal

pub returns-clause-status : goal.returns-clause-status
returns-clause-status c =
    let same : to_z w32 (of_z w32 c.keep.result) ≡ c.keep.result = search rules in
    subst (λ (status : ℤ). IsChunkStatus c.args.bytes.now c.args.chunk.now status) (sym same) (status_said c.args.bytes.now c.args.chunk.now c.array_said.result c.keep.result c.array_said.ensures c.keep.ensures.status)
