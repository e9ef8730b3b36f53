use Rattle.std.proofs.Common.{rules, ◌≡◌, ◌≢◌, ◌%◌, true, false, sym, ◌∙◌, arith}
use Rattle.fl_column.proofs.BitmapLaws.{no_bit_behind}
use Rattle.flcol_c.proofs.BitmapLaws.{all_set, none_set, run_clear, run_set}
use Rattle.flcol_c.proofs.bitmaps.write_run.Goals as goal

pub returns-then-not-on-clause-bits : goal.returns-then-not-on-clause-bits
returns-then-not-on-clause-bits c i h =
    let long = c.fill.auto.bytes in
    let off : c.args.on ≡ false = search rules in
    none_set c.fill.new.bytes i (λ k below. c.fill.ensures k (omega arith)) ∙ sym off

pub returns-then-not-on-clause-clear : goal.returns-then-not-on-clause-clear
returns-then-not-on-clause-clear c i h =
    let long = c.fill.auto.bytes in
    none_set c.fill.new.bytes i (λ k below. c.fill.ensures k (omega arith))

pub returns-then-len-ne0-clause-bits : goal.returns-then-len-ne0-clause-bits
returns-then-len-ne0-clause-bits c i h =
    let long = c.fill-2.auto.bytes in
    let bytes = c.requires in
    let on : c.args.on ≡ true = search rules in
    let some : c.args.len % 8 ≢ 0 = omega arith in
    run_set c.fill-2.new.bytes c.args.len i (omega arith) (λ k below. c.fill-2.ensures k (omega arith)) (omega arith) h ∙ sym on

pub returns-then-len-ne0-clause-clear : goal.returns-then-len-ne0-clause-clear
returns-then-len-ne0-clause-clear c i h =
    let long = c.fill-2.auto.bytes in
    let bytes = c.requires in
    let some : c.args.len % 8 ≢ 0 = omega arith in
    run_clear c.fill-2.new.bytes c.args.len i (omega arith) (omega arith) h

pub returns-else-len-ne0-clause-bits : goal.returns-else-len-ne0-clause-bits
returns-else-len-ne0-clause-bits c i h =
    let long = c.fill-2.auto.bytes in
    let bytes = c.requires in
    let on : c.args.on ≡ true = search rules in
    all_set c.fill-2.new.bytes i (λ k below. c.fill-2.ensures k (omega arith)) (omega arith) ∙ sym on

pub returns-else-len-ne0-clause-clear : goal.returns-else-len-ne0-clause-clear
returns-else-len-ne0-clause-clear c i h =
    let long = c.fill-2.auto.bytes in
    let bytes = c.requires in
    let whole : c.args.len % 8 ≡ 0 = omega arith in
    no_bit_behind c.fill-2.new.bytes i (omega arith)
