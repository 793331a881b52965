-- What is printed, read again: the fields of a text with numbers behind it are the text's and the numbers' digits, and
-- the digits of a number are read as that number.
-- Assumes nothing.
use Rattle.std.specs.Prelude.{ℕ, ◌^◌, ◌<◌, Bool, true, false, cond, List, [], ◌∷◌, ◌++◌, map, ◌≡◌, refl, eqb, leb, length, Some}
use mathlib.Core.List.{foldl}
use Rattle.std.specs.Fmt.{decimal as digits}
use Rattle.std.specs.List.{onto_first, AllByRecursion}
use Rattle.std.proofs.Common.{ap, sym, ◌∙◌, append_assoc, append-nil, arith, le-leb, lt-ltb, ne_eqb}
use Rattle.std.proofs.Math.Bool.{and-eq-true_iff}
use Rattle.std.proofs.lemmas.Fmt.{decimal_nonempty, digits_decimal, digits_value-decimal}
use Rattle.std.proofs.lemmas.Str.Parse.{IsDigitsTest, IsNumeralModel, numerals_by_fold}
use Rattle.tool_lines.specs.Line.{tab, fields, digitb, allb, with_digit, decimal, numberb}
use Rattle.tool_lines.specs.Digits.{number_of}
use Rattle.tool_print.specs.Text.{cells}
use Rattle.tool_laws.specs.FieldsLaws.{digit_bounds, split}

-- the two sides' words for digits and their number
abbrev AllDigits : List ℕ → Type 0
AllDigits ds = allb digitb ds ≡ true

all_digits : IsDigitsTest AllDigits
all_digits =
    record {
      empty = refl;
      parts = λ c cs e. let k = (and-eq-true_iff (digitb c) (allb digitb cs)).0 e in (digit_bounds c k.0, k.1);
      more = λ c cs k e. (and-eq-true_iff (digitb c) (allb digitb cs)).1 ((and-eq-true_iff (leb 48 c) (leb c 57)).1 (le-leb 48 c k.0, le-leb c 57 k.1), e);
    }

numeral : IsNumeralModel AllDigits (foldl with_digit 0)
numeral = numerals_by_fold AllDigits all_digits (foldl with_digit) (record { empty = λ n. refl; more = λ n c cs k. refl })

pub number_read : (n : ℕ) → n < 2 ^ 32 → number_of (digits n) ≡ Some n
unfolding numberb decimal
number_read n h =
    let fits : n < 2 ^ 64 = omega arith in
    let all : allb digitb (digits n) ≡ true = digits_decimal numeral n fits in
    let value : foldl with_digit 0 (digits n) ≡ n = digits_value-decimal numeral n fits in
    rw (lt-ltb 0 (length (digits n)) (decimal_nonempty n fits), all, value, lt-ltb n (2 ^ 32) h)

-- digits are one field
one_field : (ds : List ℕ) → AllDigits ds → fields ds ≡ ds ∷ []
unfolding fields
one_field [] e = refl
one_field (c ∷ cs) e =
    let k = (and-eq-true_iff (digitb c) (allb digitb cs)).0 e in
    rw (ne_eqb c tab (λ t. omega (arith, digit_bounds c k.0)), one_field cs k.1)

-- a part behind others leaves the first as it is
onto_more : (b : ℕ) (parts more : List (List ℕ)) (part field : List ℕ) → parts ≡ part ∷ more → onto_first b (parts ++ field ∷ []) ≡ onto_first b parts ++ field ∷ []
onto_more b parts more part field e = rw e

-- a field behind others
field_behind : (text field : List ℕ) → fields field ≡ field ∷ [] → fields (text ++ tab ∷ field) ≡ fields text ++ field ∷ []
unfolding fields
field_behind [] field e = ap (λ fs. [] ∷ fs) e
field_behind (b ∷ text) field e = go (eqb b tab) (field_behind text field e)
  where
    go : (t : Bool) → fields (text ++ tab ∷ field) ≡ fields text ++ field ∷ [] →
        cond t ([] ∷ fields (text ++ tab ∷ field)) (onto_first b (fields (text ++ tab ∷ field))) ≡ cond t ([] ∷ fields text) (onto_first b (fields text)) ++ field ∷ []
    go true h = ap (λ fs. [] ∷ fs) h
    go false h = ap (onto_first b) h ∙ onto_more b (fields text) _ _ field (split text)

pub cells_read : (text numbers : List ℕ) → AllByRecursion (λ n. n < 2 ^ 32) numbers → fields (cells text numbers) ≡ fields text ++ map digits numbers
cells_read text [] fit = sym (append-nil (fields text))
cells_read text (n ∷ numbers) fit =
    let all : allb digitb (digits n) ≡ true = digits_decimal numeral n (omega (arith, fit.0)) in
    let here : fields (text ++ tab ∷ digits n) ≡ fields text ++ digits n ∷ [] = field_behind text (digits n) (one_field (digits n) all) in
    let same : (text ++ tab ∷ []) ++ digits n ≡ text ++ tab ∷ digits n = append_assoc text (tab ∷ []) (digits n) in
    cells_read ((text ++ tab ∷ []) ++ digits n) numbers fit.1
    ∙ ap (λ l. fields l ++ map digits numbers) same
    ∙ ap (λ l. l ++ map digits numbers) here
    ∙ append_assoc (fields text) (digits n ∷ []) (map digits numbers)
