use Rattle.std.proofs.Common.{◌≡◌, ℤ, w32, to_z, of_z, sym, subst, rules}
use Rattle.flcol_c.specs.Containers.{IsReadStatus}
use Rattle.flcol_c.proofs.ContainerLaws.{status_read}
use Rattle.flcol_c.proofs.calls.give_back.flcol_deserialize.Goals as goal

pub returns-clause-status : goal.returns-clause-status
returns-clause-status c =
    let same : to_z w32 (of_z w32 c.keep.result) ≡ c.keep.result = search rules in
    subst (λ (status : ℤ). IsReadStatus c.args.bytes.now status) (sym same) (status_read c.args.bytes.now c.from_container.result c.keep.result c.from_container.ensures c.keep.ensures.status)
