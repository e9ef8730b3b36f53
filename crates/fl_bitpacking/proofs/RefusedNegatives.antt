-- Whether an item is negative, where that is refused, block by block.
use Rattle.std.proofs.Common.{◌≡◌, ℕ, ℤ, ◌+◌, ◌*◌, ◌≤◌, ◌&&◌, Bool, true, false, cond, List, length, take, Option, Some, None, Ok, Err, IsErrAnd, refl, ◌∙◌}
use Rattle.std.specs.Prelude.{Result}
use Rattle.fl_types.specs.declared.error.FastLanesError.{FastLanesError}
use Rattle.fl_types.specs.declared.error.FastLanesError.TheVariants.{NegativeValue, OutOfMemory}
use Rattle.fl_bitpacking.specs.Encoders.{AnswersUnless}
use Rattle.std.specs.List.{list_any}
use Rattle.fl_types.specs.Bits.{between}
use Rattle.fl_patches.specs.Exceptions.{is_negative}
use Rattle.fl_patches.proofs.BlockSigns.{negative_in_block, none_more, none_of_all}

-- none of the first blocks, and none of the next one
pub refused_more : (refuses : Bool) (items : List (Option ℤ)) (block : ℕ) → (refuses && list_any is_negative (take (1024 * block) items)) ≡ false → (refuses && list_any is_negative (between (1024 * block) (1024 * (block + 1)) items)) ≡ false
    → (refuses && list_any is_negative (take (1024 * (block + 1)) items)) ≡ false
refused_more true items block before here = none_more items block before here
refused_more false items block before here = refl

-- one of a block
pub refused_here : (refuses : Bool) (items : List (Option ℤ)) (block : ℕ) → (refuses && list_any is_negative (between (1024 * block) (1024 * (block + 1)) items)) ≡ true → (refuses && list_any is_negative items) ≡ true
refused_here true items block here = negative_in_block items block here
refused_here false items block here = here

-- none of all blocks
pub refused_none : (refuses : Bool) (items : List (Option ℤ)) (block : ℕ) → length items ≤ 1024 * block → (refuses && list_any is_negative (take (1024 * block) items)) ≡ false → (refuses && list_any is_negative items) ≡ false
refused_none true items block room none = none_of_all items block room none
refused_none false items block room none = refl

pub refused_first : (refuses : Bool) (items : List (Option ℤ)) → (refuses && list_any is_negative (take (1024 * 0) items)) ≡ false
refused_first true items = refl
refused_first false items = refl

-- ---- memory
-- a call that ran out of memory may refuse whatever it refuses
pub memory_unless : {X : Type 0} (refusal : Option FastLanesError) (r : Result X FastLanesError) → IsErrAnd r (λ e. e ≡ OutOfMemory) → AnswersUnless refusal r
memory_unless None (Ok x) h = absurd h
memory_unless None (Err e) h = h
memory_unless (Some refusal) (Ok x) h = absurd h
memory_unless (Some refusal) (Err e) h = λ other. absurd (other h)

-- a call that answers, as one before it did
pub answers_unless : {X Y : Type 0} (refusal : Option FastLanesError) (x : X) (y : Y) → AnswersUnless refusal (Ok x) → AnswersUnless refusal (Ok y)
answers_unless None x y h = tt
answers_unless (Some refusal) x y h = absurd h

-- a call that is refused, as one before it was
pub refused_unless : (X : Type 0) {Y : Type 0} (refusal : Option FastLanesError) (e : FastLanesError) (r : Result Y FastLanesError) → AnswersUnless {X = X} refusal (Err e) → IsErrAnd r (λ f. f ≡ e) → AnswersUnless refusal r
refused_unless X None e (Ok y) h is = absurd is
refused_unless X None e (Err f) h is = is ∙ h
refused_unless X (Some refusal) e (Ok y) h is = absurd is
refused_unless X (Some refusal) e (Err f) h is = λ other. is ∙ h (λ same. other (is ∙ same))

-- a refusal that comes after that of a negative item
pub refused_after : (X : Type 0) (negative : Bool) (other : Option FastLanesError) (refusal e : FastLanesError) → other ≡ Some refusal → e ≡ cond negative NegativeValue refusal → AnswersUnless {X = X} (cond negative (Some NegativeValue) other) (Err e)
refused_after X true other refusal e is so = λ h. so
refused_after X false other refusal e is so = rw is (λ h. so)
