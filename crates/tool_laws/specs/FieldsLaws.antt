-- Fields of a line, found one after the other.
-- Assumes nothing.
use Rattle.std.specs.Prelude.{ℕ, suc, ◌+◌, ◌-◌, ◌≤◌, ◌<◌, Bool, true, false, not, cond, List, [], ◌∷◌, ◌≡◌, refl, eqb, ltb, leb, length, get_or, take, drop, Option, Some, None, unwrap_or, is_some}
use Rattle.std.specs.List.{position_or_len, onto_first}
use Rattle.std.proofs.Common.{ap, sym, ◌∙◌, arith, add-zero, leb-true, leb-false, lt-ltb, le-ltb, le-leb, length-drop, drop-drop, get_or-drop}
use Rattle.std.proofs.Math.Bool.{and-eq-true_iff}
use Rattle.std.proofs.lemmas.Bool.{lt-leb}
use Rattle.std.proofs.Math.Dec.{leb-suc-suc, leb-zero}
use Rattle.tool_lines.specs.Line.{tab, fields, digitb, decimal, numberb}
use Rattle.tool_lines.specs.Digits.{value_of, number_of}
use Rattle.tool_lines.specs.Fields.{first_field, noneb}
use Rattle.tool_scripts.specs.NumbersLaws.{number_or_0}
use Rattle.tool_laws.specs.Search.{seek}
use Rattle.tool_laws.specs.Fields.{rest, NumberAt, ReadAt}

-- the digits are 0 to 9
pub digit_bounds : (b : ℕ) → digitb b ≡ true → (48 ≤ b) × (b ≤ 57)
digit_bounds b d =
    let both = (and-eq-true_iff (leb 48 b) (leb b 57)).0 d in
    (leb-true 48 b both.0, leb-true b 57 both.1)

-- how far the first tab is
abbrev to_tab : List ℕ → ℕ
to_tab l = position_or_len (λ b. eqb b tab) l

-- the first field, and the others where there is a tab behind it
pub split : (l : List ℕ) →
    fields l ≡ take (position_or_len (λ b. eqb b tab) l) l
    ∷ cond (ltb (position_or_len (λ b. eqb b tab) l) (length l)) (fields (drop (suc (position_or_len (λ b. eqb b tab) l)) l)) []
unfolding fields
split [] = refl
split (b ∷ l) = go (eqb b tab) (split l)
  where
    onward : 1 + to_tab l ≡ suc (to_tab l)
    onward = omega arith

    go : (t : Bool) → fields l ≡ take (to_tab l) l ∷ cond (ltb (to_tab l) (length l)) (fields (drop (suc (to_tab l)) l)) [] →
        cond t ([] ∷ fields l) (onto_first b (fields l))
        ≡ take (cond (not t) (1 + to_tab l) 0) (b ∷ l)
        ∷ cond (ltb (cond (not t) (1 + to_tab l) 0) (suc (length l))) (fields (drop (suc (cond (not t) (1 + to_tab l) 0)) (b ∷ l))) []
    go true h = rw (lt-ltb 0 (suc (length l)) (omega arith)) refl
    go false h = ap (onto_first b) h ∙ rw (onward, leb-suc-suc (suc (to_tab l)) (length l)) refl

pub no_rest : (line : List ℕ) (from : ℕ) → length line < from → rest line from ≡ []
unfolding rest
no_rest line from h = rw (lt-leb from (length line) h)

pub all_rest : (line : List ℕ) → rest line 0 ≡ fields line
unfolding rest
all_rest line = rw (leb-zero (length line))

-- orders that hold together
pub together : (a b c d : ℕ) → (c ≤ d → a ≤ b) → (d < c → b < a) → leb a b ≡ leb c d
together a b c d holds fails = go (leb c d) refl
  where
    go : (t : Bool) → leb c d ≡ t → leb a b ≡ t
    go true e = le-leb a b (holds (leb-true c d e))
    go false e = lt-leb a b (fails (leb-false c d e))

-- the field at `from`, and those behind it
pub rest_step : (line : List ℕ) (from end : ℕ) → from ≤ length line → end ≡ seek line from tab →
    rest line from ≡ take (end - from) (drop from line) ∷ rest line (end + 1)
unfolding rest
rest_step line from end h e =
    let k : end - from ≡ to_tab (drop from line) = omega arith in
    let n : from + suc (to_tab (drop from line)) ≡ end + 1 = omega arith in
    let t : ltb (to_tab (drop from line)) (length (drop from line)) ≡ leb (end + 1) (length line)
    = together (suc (to_tab (drop from line))) (length (drop from line)) (end + 1) (length line)
    (λ p. omega (arith, p, length-drop from line)) (λ p. omega (arith, p, length-drop from line)) in
    rw (le-leb from (length line) h, split (drop from line), k, t, drop-drop (suc (to_tab (drop from line))) from line, n)

pub first_word : (line : List ℕ) (end : ℕ) → end ≡ seek line 0 tab → fields line ≡ take (end - 0) line ∷ rest line (end + 1)
first_word line end e = sym (all_rest line) ∙ rest_step line 0 end (omega arith) e

pub read_past : (line : List ℕ) (from : ℕ) → length line < from → ReadAt line from (record { fits = false; value = 0; next = from })
unfolding numberb
read_past line from h =
    let none = no_rest line from h in
    record { fits = rw none; value = rw none; behind = rw none }

-- whether a field has a number
told_fits : (field : List ℕ) → is_some (number_of field) ≡ numberb field
told_fits field = go (numberb field)
  where
    go : (t : Bool) → is_some (cond t (Some (decimal field)) None) ≡ t
    go true = refl
    go false = refl

pub read_field : (line : List ℕ) (from end : ℕ) (number : Option ℕ) → from ≤ length line → end ≡ seek line from tab →
    number ≡ number_of (take (end - from) (drop from line)) →
    ReadAt line from (record { fits = is_some number; value = unwrap_or number 0; next = end + 1 })
read_field line from end number h e n =
    let field = take (end - from) (drop from line) in
    let step = rest_step line from end h e in
    record { fits = rw (n, step) (told_fits field); value = rw (n, step) (number_or_0 field); behind = rw step }

pub some_field : (l : List ℕ) → noneb (fields l) ≡ false
unfolding noneb
some_field l = rw (split l)

-- a position behind the line is that of no field
pub behind_line : (line : List ℕ) (from : ℕ) → ltb (length line) from ≡ noneb (rest line from)
unfolding rest noneb
behind_line line from = go (leb from (length line)) refl
  where
    go : (t : Bool) → leb from (length line) ≡ t → ltb (length line) from ≡ noneb (cond t (fields (drop from line)) [])
    go true e = le-ltb (length line) from (leb-true from (length line) e) ∙ sym (some_field (drop from line))
    go false e = lt-ltb (length line) from (leb-false from (length line) e)

-- what was read at field k, and where field k + 1 is
pub at_field : (line : List ℕ) (fs : List (List ℕ)) (k from : ℕ) (n : NumberAt) → rest line from ≡ drop k fs → ReadAt line from n →
    ((n.fits ≡ numberb (get_or fs k [])) × (n.value ≡ value_of (get_or fs k []))) × (rest line n.next ≡ drop (k + 1) fs)
at_field line fs k from n e r =
    let one : first_field (rest line from) ≡ get_or fs k [] = rw (e, get_or-drop k fs 0 [], add-zero k) in
    ((r.fits ∙ rw one, r.value ∙ rw one), r.behind ∙ rw (e, drop-drop 1 k fs))
