-- What a function does with a list that it adds operations to.
-- Assumes nothing.
use Rattle.std.specs.Prelude.{ℕ, ◌+◌, ◌≤◌, ◌≡◌, List, length}
use Rattle.std.proofs.lemmas.List.Edits.{sets}
use Rattle.ops.specs.declared.OpList.{OpList}
use Rattle.ops.specs.Ops.{Op, flat, records}

-- n records more fit
abbrev pub Room : ℕ → OpList → Type 0
Room n l = l.end + records n ≤ length l.numbers.now

-- the numbers `vs` stand behind those of before, in the same lent list, and nothing else changed
pub record Puts (l : OpList) (vs : List ℕ) (l' : OpList) : Type 0 where
  pub same : l'.numbers.ghost_name ≡ l.numbers.ghost_name
  pub end : l'.end ≡ l.end + length vs
  pub list : l'.numbers.now ≡ sets l.numbers.now l.end vs
  pub room : length l'.numbers.now ≡ length l.numbers.now

-- the records of `os` stand behind those of before, in the same lent list, and nothing else changed
pub record Adds (l : OpList) (os : List Op) (l' : OpList) : Type 0 where
  pub same : l'.numbers.ghost_name ≡ l.numbers.ghost_name
  pub end : l'.end ≡ l.end + length (flat os)
  pub list : l'.numbers.now ≡ sets l.numbers.now l.end (flat os)
  pub room : length l'.numbers.now ≡ length l.numbers.now
