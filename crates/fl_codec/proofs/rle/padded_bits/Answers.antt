use Rattle.std.proofs.Common.{◌≡◌, ◌+◌, ◌-◌, ◌++◌, ◌∷◌, [], ◌≤◌, ℕ, Bool, false, List, Ok, Result, length, replicate, sym, refl, arith, append_assoc}
use Rattle.std.proofs.lemmas.List.{append-nil, replicate_more}
use Rattle.fl_types.specs.declared.error.FastLanesError.{FastLanesError}
use Rattle.fl_types.proofs.Refused.{no_memory_there, only_memory}
use Rattle.fl_codec.proofs.rle.padded_bits.Goals as goal

padded_none : (bits padded : List Bool) (n : ℕ) → ◌≡◌ {A = Result (List Bool) FastLanesError} (Ok bits) (Ok padded) → n ≡ length bits → padded ≡ bits ++ replicate (n - length bits) false
padded_none bits padded n copied len =
    let here : padded ≡ bits = cc in
    let none : n - length bits ≡ 0 = omega arith in
    rw (here, none) (sym (append-nil bits))

padded_more : (bits padded next : List Bool) (i : ℕ) → length bits ≤ i → padded ≡ bits ++ replicate (i - length bits) false → next ≡ padded ++ false ∷ [] → next ≡ bits ++ replicate (i + 1 - length bits) false
padded_more bits padded next i enough is pushed =
    let more : i + 1 - length bits ≡ i - length bits + 1 = omega arith in
    rw (pushed, is, append_assoc, replicate_more (i - length bits) false, more) refl

pub returns-in_err-padded : goal.returns-in_err-padded
returns-in_err-padded c = no_memory_there _ c.from_residual.result _ _ c.from_residual.ensures.1 (only_memory _ _ c.in_err-padded.ensures)

pub returns-in_err-push : goal.returns-in_err-push
returns-in_err-push c = no_memory_there _ c.from_residual-in_err-push.result _ _ c.from_residual-in_err-push.ensures.1 c.in_err-push.ensures.memory

pub loop-i-init : goal.loop-i-init
loop-i-init c = padded_none c.args.bits.now c.in_ok-padded.padded c.len-len.result c.in_ok-padded.ensures c.len-len.ensures

pub loop-i-preserved : goal.loop-i-preserved
loop-i-preserved c = padded_more c.args.bits.now c.loop-i.padded c.push.new.self c.loop-i._i (omega arith) c.loop-i.invariant c.in_ok-push.ensures.ok
