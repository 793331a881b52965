-- What is put is the number's text, which has no more than ten digits.
use Rattle.std.proofs.Common.{ℕ, ◌^◌, ◌≤◌, ◌<◌, ◌≡◌, ◌∙◌, ap, arith, List, length, decimal}
use Rattle.std.proofs.lemmas.Fmt.{length-decimal-le}
use Rattle.io.specs.Digits.{last_digits, IsDigitCount}
use Rattle.tool_print.proofs.DecimalLaws.{fewest_digits}
use Rattle.tool_print.proofs.line.Line.number.Goals as goal

digits_put : (text : List ℕ) (n k : ℕ) → n < 2 ^ 32 → IsDigitCount 10 1 n k → text ≡ last_digits 10 k n → (text ≡ decimal n) × (length text ≤ 10)
digits_put text n k small few e =
    let all : text ≡ decimal n = e ∙ fewest_digits k n (omega arith) few in
    (all, omega (arith, ap length all, length-decimal-le 10 n (omega arith) (omega arith) (omega arith)))

pub text-requires : goal.text-requires
text-requires g c =
    let d = c.decimal-count in
    let put = digits_put _ _ _ c.ranges.n.fits d.ensures.len d.ensures.digits in
    omega (arith, put.1)

pub returns-clause-digits : goal.returns-clause-digits
returns-clause-digits g c =
    let d = c.decimal-count in
    let put = digits_put _ _ _ c.ranges.n.fits d.ensures.len d.ensures.digits in
    rw (c.text.ensures.text, put.0)

pub returns-clause-len : goal.returns-clause-len
returns-clause-len g c =
    let d = c.decimal-count in
    let put = digits_put _ _ _ c.ranges.n.fits d.ensures.len d.ensures.digits in
    omega (arith, c.text.ensures.len, put.1)
