-- Parts of lent bytes. Where a part would go beyond its bytes it ends with them.
-- Assumes nothing.
use Rattle.std.specs.Prelude.{ℕ, ◌+◌, Bool, true, false, List, ◌++◌, length, take, drop}

-- at most n bytes, from a place on
abbrev pub part : List ℕ → ℕ → ℕ → List ℕ
part l from n = take n (drop from l)

-- the piece of a transfer (document 01, "Choice of buffer"): of the caller's bytes those from a place on, or the start of
-- the endpoint's own buffer
abbrev pub piece_of : Bool → List ℕ → List ℕ → ℕ → ℕ → List ℕ
piece_of true bytes own at n = part bytes at n
piece_of false bytes own at n = part own 0 n

-- lent bytes after p was stored from a place on: what stands before it and behind it stays
abbrev pub put : List ℕ → ℕ → List ℕ → List ℕ
put l at p = take at l ++ (p ++ drop (at + length p) l)
