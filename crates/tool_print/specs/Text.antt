-- Text that is printed, in ASCII.
-- Assumes nothing.
use Rattle.std.specs.Prelude.{ℕ, List, [], ◌∷◌, ◌++◌, decimal}

abbrev pub tab : List ℕ
tab = 9 ∷ []

-- the end of a line
abbrev pub line_feed : List ℕ
line_feed = 10 ∷ []

-- a text and numbers behind it, each behind a tab, in as few decimal digits as hold it
abbrev pub cells : List ℕ → List ℕ → List ℕ
cells text [] = text
cells text (n ∷ numbers) = cells (text ++ tab ++ decimal n) numbers

-- a line of a text and numbers
abbrev pub row : List ℕ → List ℕ → List ℕ
row text numbers = cells text numbers ++ line_feed
