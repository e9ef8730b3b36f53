-- Embedded messages: whether a type number beside one is looked at before or after its own isn't seen.
use Rattle.std.proofs.Common.{◌≡◌, ◌==◌, ◌∙◌, ℕ, Bool, true, false, List, Option, None, Some, Result, Ok, Err, ap, refl, sym}
use Rattle.std.specs.Prelude.{if◌then◌else◌}
use Rattle.fl_types.specs.declared.dtype.PType.{PType}
use Rattle.fl_types.specs.declared.error.FastLanesError.TheVariants.{UnknownType}
use Rattle.fl_types.specs.declared.error.FastLanesError.{FastLanesError}
use Rattle.fl_metadata.specs.Wire.{Payload}
use Rattle.fl_metadata.specs.Schemas.{◌>>=◌, message_at, number_at, optional_number_at, values_of}
use Rattle.fl_metadata.specs.Messages.{bit_packed_blocked_of, bit_packed_blocked_schema, embedded_of, embedded_patches, embedded_values, optional_type_of, patches_in, type_numbered}
use Rattle.fl_metadata.specs.declared.bit_packed.BitPackedBlockedMetadata.{BitPackedBlockedMetadata}
use Rattle.fl_metadata.specs.declared.patches.PatchesMetadata.{PatchesMetadata}

-- ---- two steps that refuse alike
-- a refusal is that of a number that stands for no type
abbrev RefusesType : {A : Type 0} → Result A FastLanesError → Type 0
RefusesType (Ok a) = Unit {0}
RefusesType (Err e) = e ≡ UnknownType

refuses_if : {A : Type 0} (b : Bool) (r s : Result A FastLanesError) → RefusesType r → RefusesType s → RefusesType (if b then r else s)
refuses_if true r s so too = so
refuses_if false r s so too = too

refuses_then : {A B : Type 0} (r : Result A FastLanesError) (k : A → Result B FastLanesError) → RefusesType r → ((a : A) → RefusesType (k a)) → RefusesType (r >>= k)
refuses_then (Ok a) k so too = too a
refuses_then (Err e) k so too = so

type_refuses : (n : ℕ) → RefusesType (type_numbered n)
type_refuses n = refuses_if (n == 0) _ _ tt (refuses_if (n == 1) _ _ tt (refuses_if (n == 2) _ _ tt (refuses_if (n == 3) _ _ tt (refuses_if (n == 4) _ _ tt (refuses_if (n == 5) _ _ tt (refuses_if (n == 6) _ _ tt (refuses_if (n == 7) _ _ tt refl)))))))

optional_refuses : (n : Option ℕ) → RefusesType (optional_type_of n)
optional_refuses None = tt
optional_refuses (Some n) = refuses_then (type_numbered n) (λ t. Ok (Some t)) (type_refuses n) (λ t. tt)

patches_refuse : (values : Option (List (Option Payload))) → RefusesType (embedded_patches values)
unfolding patches_in
patches_refuse None = tt
patches_refuse (Some values) = refuses_then (patches_in values) (λ m. Ok (Some m)) (refuses_then (type_numbered (number_at 3 values)) _ (type_refuses (number_at 3 values)) (λ t. refuses_then (optional_type_of (optional_number_at 5 values)) _ (optional_refuses (optional_number_at 5 values)) (λ o. tt))) (λ m. tt)

-- their order isn't seen
swapped : {A B C : Type 0} (r : Result A FastLanesError) (s : Result B FastLanesError) (k : A → B → Result C FastLanesError) → RefusesType r → RefusesType s → r >>= (λ a. s >>= k a) ≡ s >>= (λ b. r >>= (λ a. k a b))
swapped (Ok a) (Ok b) k so too = refl
swapped (Ok a) (Err e) k so too = refl
swapped (Err e) (Ok b) k so too = refl
swapped (Err e) (Err f) k so too = ap Err (so ∙ sym too)

-- a type number behind an embedded message
type_after : {A : Type 0} (text : Option (List ℕ)) (n : ℕ) (k : PType → Option PatchesMetadata → Result A FastLanesError)
    → embedded_of text >>= (λ patches. type_numbered n >>= (λ t. k t patches)) ≡ embedded_values text >>= (λ values. type_numbered n >>= (λ t. embedded_patches values >>= k t))
type_after text n k = each (embedded_values text)
  where
    each : (values : Result (Option (List (Option Payload))) FastLanesError) → (values >>= embedded_patches) >>= (λ patches. type_numbered n >>= (λ t. k t patches)) ≡ values >>= (λ v. type_numbered n >>= (λ t. embedded_patches v >>= k t))
    each (Ok values) = sym (swapped (type_numbered n) (embedded_patches values) k (type_refuses n) (patches_refuse values))
    each (Err e) = refl

-- the message of a bit-packed array whose embedded message is refused
pub blocked_fails : (bytes : List ℕ) (values : List (Option Payload)) (e : FastLanesError) → values_of bit_packed_blocked_schema bytes ≡ Ok values → embedded_of (message_at 3 values) ≡ Err e → bit_packed_blocked_of bytes ≡ Err e
unfolding bit_packed_blocked_of
blocked_fails bytes values e read refused = rw (read, ← type_after {A = BitPackedBlockedMetadata} (message_at 3 values) (number_at 2 values) (λ t patches. Ok (record { offset = number_at 1 values; block_offsets = t; patches = patches })), refused) refl

-- and one whose type number stands for no type
pub blocked_untyped : (bytes : List ℕ) (values : List (Option Payload)) (patches : Option PatchesMetadata) (e : FastLanesError) → values_of bit_packed_blocked_schema bytes ≡ Ok values → embedded_of (message_at 3 values) ≡ Ok patches → type_numbered (number_at 2 values) ≡ Err e → bit_packed_blocked_of bytes ≡ Err e
unfolding bit_packed_blocked_of
blocked_untyped bytes values patches e read embedded refused = rw (read, ← type_after {A = BitPackedBlockedMetadata} (message_at 3 values) (number_at 2 values) (λ t o. Ok (record { offset = number_at 1 values; block_offsets = t; patches = o })), embedded, refused) refl

-- and one that is read
pub blocked_read : (bytes : List ℕ) (values : List (Option Payload)) (patches : Option PatchesMetadata) (t : PType) → values_of bit_packed_blocked_schema bytes ≡ Ok values → embedded_of (message_at 3 values) ≡ Ok patches → type_numbered (number_at 2 values) ≡ Ok t
    → bit_packed_blocked_of bytes ≡ Ok (record { offset = number_at 1 values; block_offsets = t; patches = patches })
unfolding bit_packed_blocked_of
blocked_read bytes values patches t read embedded typed = rw (read, ← type_after {A = BitPackedBlockedMetadata} (message_at 3 values) (number_at 2 values) (λ t' o. Ok (record { offset = number_at 1 values; block_offsets = t'; patches = o })), embedded, typed) refl
