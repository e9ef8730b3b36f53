use Rattle.std.proofs.Common.{◌≡◌, ℕ, List, ◌+◌, ◌∙◌, set, ap, arith, length-set}
use Rattle.std.specs.Int.{w64, trailing_zeros}
use Rattle.std.proofs.lemmas.Nat.Bits.{bit_at-trailing_zeros}
use Rattle.fl_types.specs.Bits.{bit_of_word}
use Rattle.fl_types.proofs.BitLists.{no_bit}
use Rattle.fl_types.proofs.KeptLaws.{bit_stays, bit_true}
use Rattle.fl_bitpacking.specs.Blocks.{block_item}
use Rattle.fl_bitpacking.specs.Readings.{bytes_at}
use Rattle.fl_bitpacking.proofs.FilteredLaws.{word_read}
use Rattle.fl_bitpacking.proofs.compute.filter.read_set.Goals as goal

pub item-requires-clause-index : goal.item-requires-clause-index
item-requires-clause-index g c =
    let rest = c.loop-rest.rest in
    let t = trailing_zeros w64 rest in
    let place = bit_at-trailing_zeros w64 rest (omega arith) (omega arith) in
    let inside = c.loop-rest.invariant.set t (bit_true rest t place.1) in
    let room = c.requires.within in
    omega arith

pub write_at-requires : goal.write_at-requires
write_at-requires g c =
    let rest = c.loop-rest.rest in
    let t = trailing_zeros w64 rest in
    let place = bit_at-trailing_zeros w64 rest (omega arith) (omega arith) in
    let inside = c.loop-rest.invariant.set t (bit_true rest t place.1) in
    let long = c.loop-rest.invariant.long in
    omega arith

pub loop-rest-preserved : goal.loop-rest-preserved
loop-rest-preserved g c =
    let value = g.T.Number.value in
    let rest = c.loop-rest.rest in
    let t = trailing_zeros w64 rest in
    let place = bit_at-trailing_zeros w64 rest (omega arith) (omega arith) in
    let within = c.loop-rest.invariant.set t (bit_true rest t place.1) in
    let long = c.loop-rest.invariant.long in
    let width = c.args.extent.width in
    let at = λ (bytes : List ℕ) (j : ℕ). block_item g.T.NativePType.PTYPE width (bytes_at c.args.extent bytes) (c.args.first + j) in
    let before = c.loop-rest.invariant.read in
    let few = c.item.ensures.few in
    let blocks = few.blocks in
    let read = before.blocks in
    record {
      long = rw (c.write_at.ensures, length-set) long;
      set = λ j set. c.loop-rest.invariant.set j (bit_stays rest t j place.1 place.2 set);
      done = rw c.write_at.ensures (word_read value (at c.args.reader.now.bytes) c.loop-rest.items c.item.result c.args.word rest t (omega arith) (c.item.ensures.item ∙ ap (λ bytes. at bytes t) before.bytes) place.1 place.2 c.loop-rest.invariant.done);
      read = record {
        bytes = few.bytes ∙ before.bytes;
        blocks = omega arith;
      };
    }

pub returns-clause-items : goal.returns-clause-items
returns-clause-items g c j set =
    let none : c.loop-rest.rest ≡ 0 = omega arith in
    c.loop-rest.invariant.done j set (ap (λ (n : ℕ). bit_of_word n j) none ∙ no_bit j)
