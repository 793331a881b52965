-- Tables of names: the place of a name is its number. One test, computed over a whole table, shows that each has the name of
-- its number, and another that each has room.
-- Assumes nothing.
use Rattle.std.specs.Prelude.{ℕ, zero, suc, Bool, true, ◌&&◌, List, [], ◌∷◌, ltb, leb, length}
use Rattle.std.specs.Borrow.{Bor}
use Rattle.std.specs.Str.{bytes_eq}
use Prim.Native.String.{String}
use Rattle.tool_rows.specs.Bytes.{room, bytes, name_of}

-- the bytes of the name with number n in a table; none past its end
unfoldable pub name_at : List (Bor (List ℕ)) → ℕ → List ℕ
name_at [] n = []
name_at (name ∷ names) zero = name.now
name_at (name ∷ names) (suc n) = name_at names n

-- no name has a number from n on
abbrev pub all_below : ℕ → List (ℕ × String) → Bool
all_below n [] = true
all_below n ((k, name) ∷ names) = ltb k n && all_below n names

-- the test of a table from number i on: each name is that of its number, and there are none past the last
abbrev pub right : List (ℕ × String) → ℕ → List (Bor (List ℕ)) → Bool
right names i [] = all_below i names
right names i (name ∷ rows) = bytes_eq name.now (bytes (name_of i names)) && right names (suc i) rows

-- the test of a table's room: no name has more bytes than that
abbrev pub roomy : List (Bor (List ℕ)) → Bool
roomy [] = true
roomy (name ∷ rows) = leb (length name.now) room && roomy rows
