use Rattle.std.proofs.Common.{◌≡◌, ℕ, ◌<◌, ◌/◌, ◌%◌, ◌+◌, ◌*◌, ◌-◌, ◌^◌, length, arith, refl, ap, ◌∙◌}
use Rattle.std.proofs.lemmas.List.{get_or_read, length_push}
use Rattle.fl_types.specs.Bits.{bit_of_word, is_set}
use Rattle.fl_types.proofs.BitLists.{is_set_below, is_set_last}
use Rattle.fl_types.proofs.AddedBits.{added_behind, bits_in_next, kept_before}
use Rattle.fl_types.proofs.bits.push_bits.Goals as goal
use Rattle.fl_types.proofs.bits.push_bits.Goals.{then-at-count-gt64+in_ok-push-2, else-at-count-gt64}

pub returns-in_ok-push-clause-before : goal.returns-in_ok-push-clause-before
returns-in_ok-push-clause-before c i h = rw c.in_ok-push.ensures.items (is_set_below c.args.words.now.items c.args.word i (omega arith))

pub returns-in_ok-push-clause-added : goal.returns-in_ok-push-clause-added
returns-in_ok-push-clause-added c j h =
    let place : c.args.len + j - 64 * length c.args.words.now.items ≡ j = omega arith in
    rw c.in_ok-push.ensures.items (is_set_last c.args.words.now.items c.args.word (c.args.len + j) (omega arith) (omega arith) ∙ ap (λ (m : ℕ). bit_of_word c.args.word m) place)

pub returns-clause-before : goal.returns-clause-before
returns-clause-before c =
    let old = c.args.words.now.items in
    let mid = c.if-at-count-gt64.words.items in
    let len = c.args.len in
    let within : len / 64 < length mid = elim c.if-at-count-gt64.branch [
      | then-at-count-gt64+in_ok-push-2 w ↦ (let more = ap length (ap (λ v. v.items) w.words-is ∙ w.in_ok-push-2.ensures.items) in omega (arith, length_push old (c.args.word / 2 ^ (64 - len % 64))))
      | else-at-count-gt64 w ↦ (let same = ap (λ v. length v.items) w.words-is in omega arith)
    ] in
    kept_before old mid len (len % 64) _ c.joined.result refl within (get_or_read mid (len / 64) _ within c.index.ensures 0) c.joined.ensures.low
    (λ i h. elim c.if-at-count-gt64.branch [
      | then-at-count-gt64+in_ok-push-2 w ↦ ap (λ l. is_set l i) (ap (λ v. v.items) w.words-is ∙ w.in_ok-push-2.ensures.items) ∙ is_set_below old (c.args.word / 2 ^ (64 - len % 64)) i (omega arith)
      | else-at-count-gt64 w ↦ ap (λ v. is_set v.items i) w.words-is
    ])

pub returns-clause-added : goal.returns-clause-added
returns-clause-added c t h =
    let old = c.args.words.now.items in
    let mid = c.if-at-count-gt64.words.items in
    let len = c.args.len in
    let within : len / 64 < length mid = elim c.if-at-count-gt64.branch [
      | then-at-count-gt64+in_ok-push-2 w ↦ (let more = ap length (ap (λ v. v.items) w.words-is ∙ w.in_ok-push-2.ensures.items) in omega (arith, length_push old (c.args.word / 2 ^ (64 - len % 64))))
      | else-at-count-gt64 w ↦ (let same = ap (λ v. length v.items) w.words-is in omega arith)
    ] in
    added_behind mid len (len % 64) c.args.word c.joined.result t refl (omega arith) within c.joined.ensures.high
    (λ over. elim c.if-at-count-gt64.branch [
      | then-at-count-gt64+in_ok-push-2 w ↦ ap (λ l. is_set l (len + t)) (ap (λ v. v.items) w.words-is ∙ w.in_ok-push-2.ensures.items) ∙ bits_in_next old len c.args.word (len % 64) t c.requires.words refl (omega arith) over (omega arith)
      | else-at-count-gt64 w ↦ absurd (let few = w.if-at-count-gt64.false in omega arith)
    ])
