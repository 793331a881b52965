-- The digits of a number, as few as hold it, are its decimal text.
use Rattle.std.proofs.Common.{ℕ, zero, suc, ◌+◌, ◌-◌, ◌*◌, ◌/◌, ◌%◌, ◌^◌, ◌≤◌, ◌<◌, ◌≡◌, refl, [], ◌∷◌, ◌++◌, ap, sym, ◌∙◌, arith, lt-ltb, pow-suc, decimal}
use Rattle.std.proofs.Math.Nat.{pow-le-pow_right}
use Rattle.std.proofs.lemmas.Fmt.{decimal_digit, decimal_step}
use Rattle.io.specs.Digits.{last_digits, hex_digit_ascii, IsDigitCount}

digit : (d : ℕ) → d < 10 → hex_digit_ascii d ≡ 48 + d
digit d h = rw (lt-ltb d 10 h) refl

-- what is left of a number without its last digit
front : (k n : ℕ) → IsDigitCount 10 1 n (suc (suc k)) → IsDigitCount 10 1 (n / 10) (suc k)
front k n few =
    let two : suc (suc k) - 1 ≡ suc k = omega arith in
    let one : suc k - 1 ≡ k = omega arith in
    let all : 10 ^ suc (suc k) ≡ 10 ^ suc k * 10 = pow-suc 10 (suc k) in
    let most : 10 ^ suc k ≡ 10 ^ k * 10 = pow-suc 10 k in
    let large : 10 ^ suc k ≤ n = rw two at (few.2 (omega arith)) in
    (omega arith, omega (arith, few.1), λ h. rw one (omega arith))

pub fewest_digits : (k n : ℕ) → n < 2 ^ 64 → IsDigitCount 10 1 n k → last_digits 10 k n ≡ decimal n
fewest_digits zero n fits few = absurd (omega (arith, few.0))
fewest_digits (suc zero) n fits few =
    let small : n < 10 = omega (arith, few.1) in
    let same : n % 10 ≡ n = omega arith in
    rw (same, digit n small) (sym (decimal_digit n small))
fewest_digits (suc (suc k)) n fits few =
    let two : suc (suc k) - 1 ≡ suc k = omega arith in
    let most : 10 ^ 1 ≤ 10 ^ suc k = pow-le-pow_right {n = 10} (omega arith) {i = 1} {j = suc k} (omega arith) in
    let large : 10 ^ suc k ≤ n = rw two at (few.2 (omega arith)) in
    ap (λ l. l ++ (hex_digit_ascii (n % 10) ∷ [])) (fewest_digits (suc k) (n / 10) (omega arith) (front k n few))
    ∙ ap (λ d. decimal (n / 10) ++ (d ∷ [])) (digit (n % 10) (omega arith))
    ∙ sym (decimal_step n (omega arith) fits)
