use Rattle.std.proofs.Common.{◌≡◌, ◌-◌, get_or, length, arith}
use Rattle.std.specs.Prelude.{IsTrue}
use Rattle.fl_column.specs.Numbers.{numbers_by}
use Rattle.fl_patches.specs.PatchMaps.{AreFoundTo, count_below, is_rising}
use Rattle.fl_patches.proofs.AllFound.{none_found, one_found}
use Rattle.fl_patches.proofs.Rising.{count_ge, length-numbers_by}
use Rattle.fl_patches.proofs.selection.find_all_typed.Goals as goal

pub loop-rank-init : goal.loop-rank-init
loop-rank-init g c =
    let indices = numbers_by g.I.Number.value c.as_slice-indices.result.now in
    let rising : IsTrue (is_rising indices) = rw c.as_slice-indices.ensures c.requires.rising in
    let first : count_below c.args.offset indices ≡ 0 = rw c.as_slice-indices.ensures c.requires.first in
    none_found c.args.offset indices c.new-found.result.places.items c.new-found.result.ranks.items rising first c.new-found.ensures

pub overflow_sub-place : goal.overflow_sub-place
overflow_sub-place g c =
    let indices = numbers_by g.I.Number.value c.as_slice-indices.result.now in
    let rising : IsTrue (is_rising indices) = rw c.as_slice-indices.ensures c.requires.rising in
    let first : count_below c.args.offset indices ≡ 0 = rw c.as_slice-indices.ensures c.requires.first in
    let len = length-numbers_by g.I.Number.value c.as_slice-indices.result.now in
    let above = count_ge indices c.args.offset c.loop-rank.rank rising (omega arith) (omega arith) in
    rw c.number_at.ensures above

pub loop-rank-preserved : goal.loop-rank-preserved
loop-rank-preserved g c =
    let indices = numbers_by g.I.Number.value c.as_slice-indices.result.now in
    let rising : IsTrue (is_rising indices) = rw c.as_slice-indices.ensures c.requires.rising in
    let first : count_below c.args.offset indices ≡ 0 = rw c.as_slice-indices.ensures c.requires.first in
    let len = length-numbers_by g.I.Number.value c.as_slice-indices.result.now in
    let k = c.loop-rank.rank in
    let above = count_ge indices c.args.offset k rising (omega arith) (omega arith) in
    let read : c.number_at.result ≡ get_or indices k 0 = c.number_at.ensures in
    let place = c.number_at.result - c.args.offset in
    one_found c.args.offset indices k place c.loop-rank.found.places.items c.loop-rank.found.ranks.items c.push.new.self.places.items c.push.new.self.ranks.items rising (omega arith) (omega arith) c.in_ok-push.ensures.found c.loop-rank.invariant

pub returns-clause-found : goal.returns-clause-found
returns-clause-found g c =
    let indices = numbers_by g.I.Number.value c.as_slice-indices.result.now in
    let len = length-numbers_by g.I.Number.value c.as_slice-indices.result.now in
    let all : c.loop-rank.rank ≡ length indices = omega arith in
    let found : AreFoundTo c.args.offset indices (length indices) c.loop-rank.found.places.items c.loop-rank.found.ranks.items = rw (← all) c.loop-rank.invariant in
    rw (← c.as_slice-indices.ensures) found
