-- What a line of a script asks for (docs/REPLAY.md, the tables of words).
-- Assumes nothing.
use Rattle.std.specs.Prelude.{ℕ, ◌+◌, Bool, cond, ◌&&◌, List, [], leb, min, length, get_or, drop}
use Rattle.tool_lines.specs.Line.{fields, allb, numberb}
use Rattle.tool_lines.specs.Digits.{value_of}
use Rattle.tool_words.specs.declared.Word.{Word}
use Rattle.tool_words.specs.Words.{meaning_of}
use Rattle.tool_words.specs.declared.Word.TheVariants.{Unfit}

-- number k of a line, the first being number 0; 0 where it is left out
abbrev pub number_at : List ℕ → ℕ → ℕ
number_at line k = value_of (get_or (fields line) (k + 1) [])

-- a number held to the most that its use has room for
abbrev pub held_to : ℕ → ℕ → ℕ
held_to most n = min n most

-- the fields behind a word are numbers, and no more than the call takes
unfoldable pub numbers_fit : ℕ → List (List ℕ) → Bool
numbers_fit most fs = leb (length fs) most && allb numberb fs

-- the call that a line asks for
unfoldable pub read_call : List ℕ → Word
read_call line =
    let meant = meaning_of (get_or (fields line) 0 []) in
    cond (numbers_fit meant.most (drop 1 (fields line))) meant.call Unfit
