-- Names as bytes.
-- Assumes nothing.
use Rattle.std.specs.Prelude.{ℕ, cond, List, [], ◌∷◌, eqb}
use Prim.Native.Char.{code}
use Prim.Native.String.{String, [] as empty, ◌∷◌ as ◌before◌}

-- the room that is asked for to store a name: no name has more bytes
abbrev pub room : ℕ
room = 20

-- a text's bytes: each character here is ASCII
abbrev pub bytes : String → List ℕ
bytes empty = []
bytes (c before s) = code c ∷ bytes s

-- the text beside a number in a table; none where the number is not in it
abbrev pub name_of : ℕ → List (ℕ × String) → String
name_of n [] = ""
name_of n ((k, name) ∷ rest) = cond (eqb n k) name (name_of n rest)
