-- Encoding by the text of a scheme.
use Rattle.std.proofs.Common.{◌≡◌, ◌≢◌, Bool, true, false, Option, Some, None, Ok, Err, Result, ap, ◌∙◌, sym, subst, refl, List, ℕ, ℤ, pos}
use Rattle.std.specs.Prelude.{IsOkAnd}
use Rattle.fl_types.specs.declared.error.FastLanesError.{FastLanesError}
use Rattle.fl_types.specs.declared.error.FastLanesError.TheVariants.{OutOfMemory}
use Rattle.fl_types.specs.Types.{is_integer}
use Rattle.fl_column.specs.Columns.{PrimitiveParts}
use Rattle.fl_bitpacking.specs.Encoders.{AnswersUnless}
use Rattle.fl_array.specs.Reads.{integer_column}
use Rattle.fl_array.specs.Trees.{Tree, column}
use Rattle.fl_encode.specs.Encodings.{EncodesAs, encode_refusal}
use Rattle.fl_encode.specs.Shapes.{Shape}
use Rattle.fl_encode.specs.Texts.{scheme_of_text}
use Rattle.flcol_c.specs.declared.fault.Fault.{Fault}
use Rattle.flcol_c.specs.declared.fault.Fault.TheVariants.{BadScheme, Refused}
use Rattle.flcol_c.specs.Encoding.{GivesEncoding, IsEncodingOf, IsEncodingStatus, IsFaultOf, IsWrongAtOnce}
use Rattle.flcol_c.specs.Held.{HoldsFrom}
use Rattle.flcol_c.specs.Plain.{IsSimplestOf}
use Rattle.flcol_c.specs.Statuses.{refusal_in, status_of}
use Rattle.flcol_c.proofs.PlainLaws.{booleans_of, integers_of}
use Rattle.flcol_c.proofs.StatusLaws.{Told}

not_both : (b : Bool) → b ≡ true → b ≡ false → true ≡ false
not_both b is_true is_false = sym is_true ∙ is_false

unless_ok : (refusal : Option FastLanesError) (t : Tree) → AnswersUnless refusal (Ok t) → refusal ≡ None
unless_ok None t h = refl
unless_ok (Some refusal) t h = absurd h

unless_err : (refusal : Option FastLanesError) (e : FastLanesError) → AnswersUnless {X = Tree} refusal (Err e) → e ≢ OutOfMemory → refusal ≡ Some e
unless_err None e h other = absurd (other h)
unless_err (Some refusal) e h other = ap (λ x. Some x) (sym (h other))

-- an array that was encoded
pub encoding_given : (t : Tree) (scheme : Shape) (plain : PrimitiveParts) (encoded : Tree) → IsSimplestOf (column t) plain → EncodesAs scheme plain (Ok encoded) → GivesEncoding (Ok scheme) t (Ok encoded)
encoding_given t scheme plain encoded simplest made = (scheme, plain, refl, simplest, unless_ok (encode_refusal scheme plain) encoded made.refused, made.form, made.stands_for ∙ simplest.0)

-- a refusal of the scheme
pub scheme_refused : (t : Tree) (scheme : Shape) (plain : PrimitiveParts) (e : FastLanesError) → refusal_in (integer_column (column t)) ≡ None → IsSimplestOf (column t) plain → EncodesAs scheme plain (Err e) → GivesEncoding (Ok scheme) t (Err (Refused e))
scheme_refused t scheme plain e integers simplest made = λ (other : Refused e ≢ Refused OutOfMemory).
    let known = integers_of (is_integer (column t).dtype) (column t) integers in
    let kept : e ≢ OutOfMemory = λ (is : e ≡ OutOfMemory). other (ap Refused is) in (
      λ booleans. absurd (let wrong : true ≡ false = not_both (is_integer (column t).dtype) known booleans in let none : ⊥ = cc in none),
      λ whole. (e, refl, (plain, simplest, unless_err (encode_refusal scheme plain) e made.refused kept)),
    )

-- a refusal of booleans
pub booleans_refused : (t : Tree) (scheme : Shape) (fault : Fault) → (fault ≢ Refused OutOfMemory → refusal_in (integer_column (column t)) ≡ Some fault) → GivesEncoding (Ok scheme) t (Err fault)
booleans_refused t scheme fault refused = λ (other : fault ≢ Refused OutOfMemory).
    let known = booleans_of (is_integer (column t).dtype) (column t) fault (refused other) in
    (λ booleans. known.1, λ integers. absurd (let wrong : true ≡ false = not_both (is_integer (column t).dtype) integers known.0 in let none : ⊥ = cc in none))

-- the fault of a text that is wrong at once
told_at_once : (r : Result Tree Fault) (s : ℤ) → Told r s → r ≡ Err BadScheme → s ≡ status_of BadScheme
told_at_once r s told e = subst (λ (r : Result Tree Fault). Told r s) e told

-- the status of an array that was encoded, or not
encoding_told : (read : Result Shape ℕ) (t : Tree) (r : Result Tree Fault) (s : ℤ) → GivesEncoding read t r → Told r s → s ≢ pos 0 → s ≢ pos 1 → (fault : Fault) × (s ≡ status_of fault) × IsFaultOf read t fault
encoding_told read t (Ok encoded) s g told some other = absurd (some (told other))
encoding_told read t (Err fault) s g told some other =
    let memory : fault ≢ Refused OutOfMemory = λ (is : fault ≡ Refused OutOfMemory). other (told ∙ ap status_of is) in
    (fault, told, g memory)

-- the status of encoding an array that is held
pub encoding_status : (text : List ℕ) (t : Tree) (r : Result Tree Fault) (s : ℤ) → GivesEncoding (scheme_of_text text) t r → (IsWrongAtOnce text → r ≡ Err BadScheme) → Told r s → IsEncodingStatus text (Some t) s
encoding_status text t r s g at_once told = (λ wrong. told_at_once r s told (at_once wrong), encoding_told (scheme_of_text text) t r s g told)

-- what was encoded is held from then on
pub encoding_held : (read : Result Shape ℕ) (before : Option Tree) (t : Tree) (r : Result Tree Fault) (after : Option Tree) → before ≡ Some t → GivesEncoding read t r → IsOkAnd r (λ (made : Tree). after ≡ Some made) → HoldsFrom (IsEncodingOf read) before after
encoding_held read before t (Ok made) after is g kept = subst (λ (held : Option Tree). HoldsFrom (IsEncodingOf read) held after) (sym is) (subst (λ (held : Option Tree). HoldsFrom (IsEncodingOf read) (Some t) held) (sym kept) g)
encoding_held read before t (Err fault) after is g kept = absurd kept
