-- The first place of a byte.
-- Assumes nothing.
use Rattle.std.specs.Prelude.{ℕ, ◌+◌, ◌≤◌, ◌<◌, not, List, [], ◌≡◌, refl, eqb, length, get_or, drop, slice_range}
use Rattle.std.specs.List.{position_or_len}
use Rattle.std.proofs.Common.{arith, ap, eq-eqb, ne_eqb, length-drop, drop_of_length-le}
use Rattle.std.proofs.lemmas.List.Sums.{prefix_len-le-length, prefix_len-drop_yes, prefix_len-drop_no, prefix_len-drop_all}
use Rattle.std.proofs.lemmas.Slice.{between_to_end}
use Rattle.tool_lines.specs.Line.{line_feed, line_end}
use Rattle.tool_laws.specs.Search.{seek}

pub seek_le : (l : List ℕ) (from b : ℕ) → from ≤ length l → seek l from b ≤ length l
seek_le l from b h = omega (arith, h, prefix_len-le-length (λ x. not (eqb x b)) (drop from l), length-drop from l)

-- past the end nothing is found
pub seek_past : (l : List ℕ) (from b : ℕ) → length l < from → from ≡ seek l from b
seek_past l from b h =
    let none : drop from l ≡ [] = drop_of_length-le l {i = from} (omega (arith, h)) in
    rw none (omega arith)

-- the search of a part up to the end
pub seek_all : (l : List ℕ) (from b r : ℕ) → r ≡ from + position_or_len (λ x. eqb x b) (slice_range l from (length l)) → r ≡ seek l from b
seek_all l from b r e = rw (between_to_end l from (length l) (omega arith)) at e

-- the search at a place: it ends there with the byte or with the list, and else goes on behind it
module _ (l : List ℕ) (i b : ℕ) where
  pub seek_here : i < length l → get_or l i 0 ≡ b → seek l i b ≡ i
  seek_here h e = omega (arith, prefix_len-drop_no (λ x. not (eqb x b)) l i 0 h (ap not (eq-eqb (get_or l i 0) b e)))

  pub seek_next : i < length l → (get_or l i 0 ≡ b → ⊥) → seek l i b ≡ seek l (i + 1) b
  seek_next h n = omega (arith, prefix_len-drop_yes (λ x. not (eqb x b)) l i 0 h (ap not (ne_eqb (get_or l i 0) b n)))

  pub seek_end : length l ≤ i → seek l i b ≡ i
  seek_end h = omega (arith, prefix_len-drop_all (λ x. not (eqb x b)) l i h)

-- a line ends at its line feed
pub line_end_found : (bytes : List ℕ) (from : ℕ) → line_end bytes from ≡ seek bytes from line_feed
line_end_found bytes from = refl
