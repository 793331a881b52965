-- A word by its place among names, and what a row says at a place.
-- Assumes nothing.
use Rattle.std.specs.Prelude.{ℕ, zero, suc, ◌+◌, ◌≤◌, List, map, ◌≡◌, length, get_or, drop}
use Rattle.std.specs.List.{position_or_len}
use Rattle.tool_lines.specs.Line.{sameb}
use Rattle.tool_words.specs.declared.Meant.{Meant}
use Rattle.tool_words.specs.declared.Word.TheVariants.{Unfit}
use Rattle.tool_words.specs.Words.{bytes, ◌taking◌, Row}

-- the first name that is this word, or how many names there are
abbrev pub place_in : List ℕ → List (List ℕ) → ℕ
place_in word names = position_or_len (λ name. sameb word name) names

pub record Placed (word : List ℕ) (names : List (List ℕ)) (place : ℕ) : Type 0 where
  pub is : place ≡ place_in word names

-- what row k says
abbrev pub meant_at : List Row → ℕ → Meant
meant_at rows k = get_or (map (λ (row : Row). row.meant) rows) k (Unfit taking 0)

-- i names passed, none of which is the word
pub record Passed (word : List ℕ) (names : List (List ℕ)) (i : ℕ) : Type 0 where
  pub within : i ≤ length names
  pub is : place_in word names ≡ i + place_in word (drop i names)

-- the names are those of the rows
abbrev pub Names : List (List ℕ) → List Row → Type 0
Names names rows = names ≡ map (λ (row : Row). bytes row.name) rows

-- none of the first k numbers
abbrev pub NoneOf : ℕ → ℕ → Type 0
NoneOf zero place = Unit
NoneOf (suc k) place = NoneOf k place × (place ≡ k → ⊥)
