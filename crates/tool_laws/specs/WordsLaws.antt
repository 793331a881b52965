-- The word of a line, found by its place.
-- Assumes nothing.
use Rattle.std.specs.Prelude.{ℕ, zero, suc, ◌+◌, ◌≤◌, ◌<◌, Bool, true, false, not, cond, List, [], ◌∷◌, map, ◌≡◌, refl, length, get_or, drop}
use Rattle.std.proofs.Common.{ap, sym, add-one, arith, drop_of_length-le, drop-cons}
use Rattle.std.proofs.Math.ListN.{get_or-eq_default}
use Rattle.tool_lines.specs.Line.{sameb}
use Rattle.tool_words.specs.declared.Word.TheVariants.{Unfit}
use Rattle.tool_words.specs.Words.{bytes, ◌taking◌, Row, rows, named, meaning_of}
use Rattle.tool_words.specs.Rows.{TableRow, Shown, seen, shown, HasRows}
use Rattle.tool_laws.specs.ReadLaws.{same_told}
use Rattle.tool_laws.specs.Words.{place_in, Placed, Passed, meant_at, Names, NoneOf}

-- whether a name is the word
pub name_told : (word name : List ℕ) (r : Bool) → (r ≡ true → word ≡ name) × (word ≡ name → r ≡ true) → r ≡ sameb word name
name_told word name r h = same_told word name r h

pub none_passed : (word : List ℕ) (names : List (List ℕ)) → Passed word names 0
none_passed word names = record { within = omega arith; is = omega arith }

module _ {word : List ℕ} {names : List (List ℕ)} {i : ℕ} (p : Passed word names i) where
  pub placed_here : i < length names → true ≡ sameb word (get_or names i []) → Placed word names i
  placed_here h e =
      let here : place_in word (drop i names) ≡ 0 = rw (drop-cons names i [] h, ← e) refl in
      record { is = omega (arith, here, p.is) }

  pub placed_later : i < length names → false ≡ sameb word (get_or names i []) → Passed word names (i + 1)
  placed_later h e =
      let later : place_in word (drop i names) ≡ 1 + place_in word (drop (i + 1) names) = rw (add-one i, drop-cons names i [] h, ← e) refl in
      record { within = omega arith; is = omega (arith, later, p.is) }

  pub placed_nowhere : length names ≤ i → Placed word names i
  placed_nowhere h =
      let past : place_in word (drop i names) ≡ 0 = rw (drop_of_length-le names {i = i} h) refl in
      record { is = omega (arith, past, p.is) }

-- the code's table has the names of its rows
pub table_names : (table : List TableRow) (named_rows : List Row) → HasRows table named_rows → Names (map (λ (row : TableRow). row.0.now) table) named_rows
table_names [] [] e = refl
table_names [] (row ∷ more) e = absurd (omega (arith, ap length e))
table_names (t ∷ table) [] e = absurd (omega (arith, ap length e))
table_names (t ∷ table) (row ∷ more) e =
    let same : seen t ≡ shown row = cc in
    let further : HasRows table more = cc in
    rw (ap (λ (x : Shown). x.0) same, table_names table more further) refl

pub at_place : (word : List ℕ) (names : List (List ℕ)) (named_rows : List Row) → Names names named_rows → meant_at named_rows (place_in word names) ≡ named word named_rows
at_place word [] [] e = refl
at_place word [] (row ∷ more) e = absurd (omega (arith, ap length e))
at_place word (name ∷ names) [] e = absurd (omega (arith, ap length e))
at_place word (name ∷ names) (row ∷ more) e =
    let first : name ≡ bytes row.name = cc in
    let further : Names names more = cc in
    rw first (go (sameb word (bytes row.name)) (at_place word names more further))
  where
    go : (b : Bool) → meant_at more (place_in word names) ≡ named word more
        → meant_at (row ∷ more) (cond (not b) (1 + place_in word names) 0) ≡ cond b row.meant (named word more)
    go true h = refl
    go false h =
        let onward : 1 + place_in word names ≡ suc (place_in word names) = omega arith in
        rw onward h

-- the row where a word is found says what it means
pub found : {word : List ℕ} {names : List (List ℕ)} {row : ℕ} → Placed word names row → Names names rows → meant_at rows row ≡ meaning_of word
unfolding meaning_of
found {word} {names} p e = rw p.is (at_place word names rows e)

pub none_of : (k place : ℕ) → NoneOf k place → k ≤ place
none_of zero place h = omega arith
none_of (suc k) place h = omega (arith, none_of k place h.0, h.1)

-- a row by its number
pub arm : {row : ℕ} (k : ℕ) → row ≡ k → meant_at rows k ≡ meant_at rows row
arm k h = rw h

-- and where the number is no row's
pub no_arm : (row : ℕ) → NoneOf (length rows) row → Unfit taking 0 ≡ meant_at rows row
no_arm row h = sym (get_or-eq_default (map (λ (r : Row). r.meant) rows) (Unfit taking 0) (none_of (length rows) row h))

-- the same, of a number behind the last
pub behind_arms : (row : ℕ) → length rows ≤ row → Unfit taking 0 ≡ meant_at rows row
behind_arms row h = sym (get_or-eq_default (map (λ (r : Row). r.meant) rows) (Unfit taking 0) h)
