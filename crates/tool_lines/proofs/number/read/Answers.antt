-- Each digit in turn: what is left decides on the whole field.
use Rattle.std.proofs.Common.{sym, ◌∙◌, arith, get_or}
use Rattle.std.proofs.lemmas.Bool.{eqb-true}
use Rattle.tool_lines.specs.DigitsLaws.{reading_none, no_digits, no_digit, not_digit, a_digit, too_large, refused, digits_accepted}
use Rattle.tool_lines.proofs.number.read.Goals as goal

pub returns-then-is_empty : goal.returns-then-is_empty
returns-then-is_empty c = refused _ (no_digits _ (eqb-true _ _ (sym c.if-is_empty.ensures)))

pub loop-byte-init : goal.loop-byte-init
loop-byte-init c = record { some = grind (arith); small = omega arith; read = reading_none _ }

pub returns-in_err-digit : goal.returns-in_err-digit
returns-in_err-digit c =
    let l = c.loop-byte in
    c.from_residual.ensures
    ∙ refused _ (no_digit _ l.byte-index l.value c.loop-byte-test.true (not_digit (get_or c.args.field.now l.byte-index 0) c.in_err-digit.ensures) l.invariant.read)

pub returns-in_err-checked_mul : goal.returns-in_err-checked_mul
returns-in_err-checked_mul c =
    let l = c.loop-byte in
    let a = c.in_err-checked_mul.ensures in
    c.from_residual-in_err-checked_mul.ensures
    ∙ refused _ (too_large _ l.byte-index l.value c.loop-byte-test.true (omega arith) l.invariant.read)

pub returns-in_err-value : goal.returns-in_err-value
returns-in_err-value c =
    let l = c.loop-byte in
    let a = c.in_err-value.ensures in
    let b = c.in_ok-checked_mul.ensures in
    let d = a_digit (get_or c.args.field.now l.byte-index 0) _ c.in_ok-digit.ensures in
    c.from_residual-in_err-value.ensures
    ∙ refused _ (too_large _ l.byte-index l.value c.loop-byte-test.true (omega arith) l.invariant.read)

pub returns : goal.returns
returns c =
    let l = c.loop-byte in
    digits_accepted _ l.byte-index l.value l.invariant.some l.invariant.small (omega arith) l.invariant.read
