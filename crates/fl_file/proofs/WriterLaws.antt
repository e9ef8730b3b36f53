-- What a writer has written.
use Rattle.std.proofs.Common.{◌≡◌, ℕ, ◌+◌, ◌%◌, List, length, Option, IfSome, ap, refl, ◌∙◌, arith, subst}
use Rattle.fl_types.specs.declared.dtype.Nullability.{Nullability}
use Rattle.fl_types.specs.declared.dtype.PType.{PType}
use Rattle.fl_file.specs.declared.foot.ChunkEntry.{ChunkEntry}
use Rattle.fl_file.specs.declared.writer.Writer.{Writer}
use Rattle.fl_file.specs.Ends.{GrowsBy}
use Rattle.fl_file.specs.Files.{FileSoFar, HasWritten, finished, foot_so_far, padded, padding_len}
use Rattle.fl_file.specs.Foot.{foot_bytes}
use Rattle.fl_file.proofs.EndLaws.{extended}

same_foot : (t t' : PType) (n n' : Nullability) (es es' : List ChunkEntry) → t ≡ t' → n ≡ n' → es ≡ es' → foot_bytes (record { ptype = t; nullability = n; chunks = es }) ≡ foot_bytes (record { ptype = t'; nullability = n'; chunks = es' })
same_foot t t' n n' es es' p q r = rw (p, q, r) refl

same_gap : (a b c d : ℕ) → a ≡ c → b ≡ d → padding_len (a % 64 + b % 64) ≡ padding_len (c + d)
same_gap a b c d p q = omega arith

pub finished_by : {S : Type 0} (written : S → Option (List ℕ)) (w : Writer S) (s : FileSoFar) (new : Option (List ℕ)) (foot : List ℕ) (gap : ℕ) → HasWritten written w s
    → foot ≡ foot_bytes (record { ptype = w.ptype; nullability = w.nullability; chunks = w.chunks.items }) → gap ≡ padding_len (w.place % 64 + length foot % 64) → GrowsBy (written w.sink) new (padded gap foot)
    → IfSome new (λ bytes. bytes ≡ finished s)
finished_by written w s new foot gap has is gap_is grows =
    let foot_is : foot ≡ foot_bytes (foot_so_far s) = is ∙ same_foot w.ptype s.ptype w.nullability s.nullability w.chunks.items s.chunks has.ptype has.nullability has.chunks in
    let gap_of : gap ≡ padding_len (length s.bytes + length (foot_bytes (foot_so_far s))) = gap_is ∙ same_gap w.place (length foot) (length s.bytes) (length (foot_bytes (foot_so_far s))) has.place (ap length foot_is) in
    let same : padded gap foot ≡ padded (padding_len (length s.bytes + length (foot_bytes (foot_so_far s)))) (foot_bytes (foot_so_far s)) = rw (gap_of, foot_is) refl in
    extended (written w.sink) new s.bytes (padded (padding_len (length s.bytes + length (foot_bytes (foot_so_far s)))) (foot_bytes (foot_so_far s))) has.bytes (subst (λ more. GrowsBy (written w.sink) new more) same grows)
