-- The fields of a line, one after the other.
-- Assumes nothing.
use Rattle.std.specs.Prelude.{ℕ, ◌+◌, ◌≤◌, ◌<◌, ◌≡◌, refl, Bool, true, false, not, cond, List, [], ◌∷◌, Option, Some, None, eqb, ltb, length, take, slice_range, unwrap_or}
use Rattle.std.proofs.Common.{sym, arith, ltb-true, ltb-false}
use Rattle.std.specs.List.{position, position_or_len, slice_split, onto_first}
use Rattle.std.proofs.lemmas.List.Splits.{slice_split_first}
use Rattle.std.proofs.lemmas.List.Sums.{prefix_len-le-length}
use Rattle.std.proofs.lemmas.Slice.{between_to_end}
use Rattle.tool_lines.specs.Line.{tab, line_feed, line_end, fields}
use Rattle.tool_lines.specs.Fields.{fields_from, noneb}
use Rattle.std.specs.Option.{is_some}
use Rattle.std.specs.Borrow.{Bor}

-- where a byte was found, or that it was not
module _ (p : ℕ → Bool) (bytes : List ℕ) where
  found_at : (end : ℕ) → Some end ≡ position p bytes → (position_or_len p bytes ≡ end) × (end < length bytes)
  found_at end = go (ltb (position_or_len p bytes) (length bytes)) refl
    where
      go : (t : Bool) → ltb (position_or_len p bytes) (length bytes) ≡ t → Some end ≡ cond t (Some (position_or_len p bytes)) None
          → (position_or_len p bytes ≡ end) × (end < length bytes)
      go true b e =
          let same : end ≡ position_or_len p bytes = cc in
          (cc, omega (arith, ltb-true (position_or_len p bytes) (length bytes) b))
      go false b e = absurd (cc)

  found_nowhere : None ≡ position p bytes → length bytes ≤ position_or_len p bytes
  found_nowhere = go (ltb (position_or_len p bytes) (length bytes)) refl
    where
      go : (t : Bool) → ltb (position_or_len p bytes) (length bytes) ≡ t → None ≡ cond t (Some (position_or_len p bytes)) None
          → length bytes ≤ position_or_len p bytes
      go true b e = absurd (cc)
      go false b e = ltb-false (position_or_len p bytes) (length bytes) b

-- a position, or the end where there is none
pub found_or_end : (p : ℕ → Bool) (bytes : List ℕ) → unwrap_or (position p bytes) (length bytes) ≡ position_or_len p bytes
found_or_end p bytes = go (ltb (position_or_len p bytes) (length bytes)) refl
  where
    go : (t : Bool) → ltb (position_or_len p bytes) (length bytes) ≡ t →
        unwrap_or (cond t (Some (position_or_len p bytes)) None) (length bytes) ≡ position_or_len p bytes
    go true b = refl
    go false b = omega (arith, ltb-false (position_or_len p bytes) (length bytes) b, prefix_len-le-length (λ x. not (p x)) bytes)

-- where nothing passes, a list is its only part
one_part : (p : ℕ → Bool) (l : List ℕ) → length l ≤ position_or_len p l → slice_split p l ≡ l ∷ []
one_part p [] h = refl
one_part p (b ∷ l) h = go (p b) refl (one_part p l)
  where
    go : (t : Bool) → p b ≡ t → (length l ≤ position_or_len p l → slice_split p l ≡ l ∷ []) → slice_split p (b ∷ l) ≡ (b ∷ l) ∷ []
    go true e more =
        let none : length (b ∷ l) ≤ 0 = rw e at h in
        absurd (omega arith)
    go false e more =
        let one : length (b ∷ l) ≤ 1 + position_or_len p l = rw e at h in
        rw (e, more (omega arith))

-- the first field, and those behind its tab
pub next_field : (line : List ℕ) (end : ℕ) → Some end ≡ position (λ b. eqb b tab) line →
    fields line ≡ take end line ∷ fields (slice_range line (end + 1) (length line))
unfolding fields
next_field line end e =
    let at = found_at (λ b. eqb b tab) line end e in
    rw (between_to_end line (end + 1) (length line) (omega arith), ← at.0) (slice_split_first (λ b. eqb b tab) line 0 (omega arith))

-- the last one has no tab behind it
pub last_field : (line : List ℕ) → None ≡ position (λ b. eqb b tab) line → fields line ≡ line ∷ []
unfolding fields
last_field line e = one_part (λ b. eqb b tab) line (found_nowhere (λ b. eqb b tab) line e)

-- the end of the line that begins at `from`
pub end_found : (bytes rest : List ℕ) (from end : ℕ) (place : Option ℕ) → rest ≡ slice_range bytes from (length bytes) →
    place ≡ position (λ b. eqb b line_feed) rest → end ≡ unwrap_or place (length rest) → from + end ≡ line_end bytes from
end_found bytes rest from end place r p e =
    rw (e, p, found_or_end (λ b. eqb b line_feed) rest, r, between_to_end bytes from (length bytes) (omega arith))

some_field : (p : ℕ → Bool) (line : List ℕ) → noneb (slice_split p line) ≡ false
unfolding noneb
some_field p [] = refl
some_field p (b ∷ line) = go (p b) (slice_split p line)
  where
    go : (t : Bool) (fs : List (List ℕ)) → noneb (cond t ([] ∷ fs) (onto_first b fs)) ≡ false
    go true fs = refl
    go false [] = refl
    go false (f ∷ fs) = refl

-- nothing is left of a line where no field is
pub none_left : (rest : Option (Bor (List ℕ))) (none : Bool) → is_some rest ≡ not none → none ≡ noneb (fields_from rest)
unfolding fields noneb
none_left None true h = refl
none_left None false h = absurd (cc)
none_left (Some line) true h = absurd (cc)
none_left (Some line) false h = sym (some_field (λ b. eqb b tab) line.now)
