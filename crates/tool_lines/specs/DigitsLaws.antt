-- Digits read one after the other.
-- Assumes nothing.
use Rattle.std.specs.Prelude.{ℕ, suc, ◌+◌, ◌-◌, ◌^◌, ◌≤◌, ◌<◌, Bool, true, false, cond, ◌&&◌, ◌≡◌, refl, ltb, length, get_or, drop, Some, None}
use Rattle.std.proofs.Math.Bool.{and-false}
use mathlib.Core.List.{List, [], ◌∷◌, foldl}
use Rattle.std.proofs.Common.{◌∙◌, arith, add-one, lt-ltb, le-ltb, drop-cons}
use Rattle.std.proofs.Math.Seq.{drop-length}
use Rattle.tool_lines.specs.Line.{digitb, allb, with_digit, decimal, numberb}
use Rattle.tool_lines.specs.Digits.{digit_of, number_of, Reading}

pub reading_none : (field : List ℕ) → Reading field 0 0
unfolding decimal
reading_none field = record { digits = refl; number = refl }

pub reading_more : (field : List ℕ) (i v : ℕ) → i < length field → digitb (get_or field i 0) ≡ true → Reading field i v →
    Reading field (i + 1) (with_digit v (get_or field i 0))
reading_more field i v h d r =
    record {
      digits = r.digits ∙ rw (add-one i, drop-cons field i 0 h, d);
      number = r.number ∙ rw (add-one i, drop-cons field i 0 h);
    }

pub not_digit : (b : ℕ) → None ≡ digit_of b → digitb b ≡ false
not_digit b = go (digitb b)
  where
    go : (t : Bool) → None ≡ cond t (Some (b - 48)) None → t ≡ false
    go false e = refl
    go true e = absurd (cc)

pub a_digit : (b d : ℕ) → Some d ≡ digit_of b → (digitb b ≡ true) × (d ≡ b - 48)
a_digit b d = go (digitb b)
  where
    go : (t : Bool) → Some d ≡ cond t (Some (b - 48)) None → (t ≡ true) × (d ≡ b - 48)
    go false e = absurd (cc)
    go true e = (refl, cc)

grows : (l : List ℕ) (v : ℕ) → v ≤ foldl with_digit v l
grows [] v = omega arith
grows (b ∷ l) v = omega (arith, grows l (with_digit v b))

pub no_digits : (field : List ℕ) → length field ≡ 0 → numberb field ≡ false
unfolding numberb
no_digits field h = rw h

pub no_digit : (field : List ℕ) (i v : ℕ) → i < length field → digitb (get_or field i 0) ≡ false → Reading field i v → numberb field ≡ false
unfolding numberb
no_digit field i v h d r = rw (r.digits, drop-cons field i 0 h, d, and-false (ltb 0 (length field)))

pub too_large : (field : List ℕ) (i v : ℕ) → i < length field → 2 ^ 32 ≤ with_digit v (get_or field i 0) → Reading field i v → numberb field ≡ false
unfolding numberb
too_large field i v h large r =
    let e : decimal field ≡ foldl with_digit (with_digit v (get_or field i 0)) (drop (suc i) field) = r.number ∙ rw (drop-cons field i 0 h) in
    rw (
      le-ltb (decimal field) (2 ^ 32) (omega (arith, large, e, grows (drop (suc i) field) (with_digit v (get_or field i 0)))),
      and-false (ltb 0 (length field) && allb digitb field),
    )

-- no field is no number
pub no_number : None ≡ number_of []
unfolding numberb
no_number = refl

-- where a field is no number
pub refused : (field : List ℕ) → numberb field ≡ false → None ≡ number_of field
refused field h = rw h

whole : (field : List ℕ) (v : ℕ) → 0 < length field → v < 2 ^ 32 → Reading field (length field) v →
    (numberb field ≡ true) × (decimal field ≡ v)
unfolding numberb
whole field v some small r =
    let d : decimal field ≡ v = r.number ∙ rw (drop-length field) in
    (rw (r.digits, drop-length field, d, lt-ltb 0 (length field) some, lt-ltb v (2 ^ 32) small), d)

-- a field read to its end
pub digits_accepted : (field : List ℕ) (i v : ℕ) → 0 < length field → v < 2 ^ 32 → i ≡ length field → Reading field i v →
    Some v ≡ number_of field
digits_accepted field i v some small e r =
    let w = whole field v some small (rw e at r) in
    rw (w.0, w.1)
