-- The search of the bytes from a position on, up to their end; past the end nothing is found.
use Rattle.std.proofs.Common.{ℕ, ◌+◌, ◌≡◌, List, Option, arith, eqb, length, slice_range, unwrap_or}
use Rattle.std.proofs.lemmas.Slice.{between_to_end}
use Rattle.std.specs.List.{position}
use Rattle.tool_lines.specs.FieldsLaws.{found_or_end}
use Rattle.tool_laws.specs.Search.{seek}
use Rattle.tool_places.proofs.first.Goals as goal

found : (bytes rest : List ℕ) (from byte end : ℕ) (place : Option ℕ) → rest ≡ slice_range bytes from (length bytes) →
    place ≡ position (λ b. eqb b byte) rest → end ≡ unwrap_or place (length rest) → from + end ≡ seek bytes from byte
found bytes rest from byte end place r p e =
    rw (e, p, found_or_end (λ b. eqb b byte) rest, r, between_to_end bytes from (length bytes) (omega arith))

pub returns-in-Some : goal.returns-in-Some
returns-in-Some c = found _ _ _ _ _ _ c.in-Some.ensures.lookup.0.2 c.position.ensures c.unwrap_or.ensures
