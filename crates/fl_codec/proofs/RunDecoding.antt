-- Numbers that are read of a column, and the items of a whole chunk.
use Rattle.std.proofs.Common.{◌≡◌, ℕ, ℤ, pos, ◌+◌, ◌-◌, ◌*◌, ◌<◌, ◌≤◌, List, length, get_or, Option, None, unwrap_or, unsigned_abs, ap, sym, ◌∙◌, arith}
use Rattle.std.proofs.lemmas.List.{get_or-map, length-map}
use Rattle.fl_column.specs.Columns.{Column, integers_in, numbers_of}
use Rattle.fl_column.proofs.ItemLaws.{length-between}
use Rattle.fl_codec.specs.Chunks.{chunk}

pub numbers_at : (c : Column) (i : ℕ) (x : Option ℤ) → i < length c.items → x ≡ get_or c.items i None → unsigned_abs (unwrap_or x (pos 0)) ≡ get_or (numbers_of c) i 0
numbers_at c i x h e =
    let long : i < length (integers_in c) = rw length-map h in
    sym (get_or-map unsigned_abs (integers_in c) i (pos 0) 0 long ∙ ap unsigned_abs (get_or-map (λ (item : Option ℤ). unwrap_or item (pos 0)) c.items i None (pos 0) h ∙ ap (λ y. unwrap_or y (pos 0)) (sym e)))

pub whole_chunk : {A : Type 0} (xs : List A) (k : ℕ) → 1024 * (k + 1) ≤ length xs → length (chunk k xs) ≡ 1024
whole_chunk xs k h = let size : 1024 * (k + 1) - 1024 * k ≡ 1024 = omega arith in length-between xs (1024 * k) (1024 * (k + 1)) (omega arith) h ∙ size
