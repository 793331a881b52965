-- The pieces of a receive, one after the other.
-- Assumes nothing.
use Rattle.std.specs.Prelude.{ℕ, ◌+◌, ◌≤◌, Bool, true, not, List, [], ◌∷◌, ◌≡◌, length, take, drop, Some, Ok}
use Rattle.endpoint_parts.specs.Parts.{part, piece_of, put}
use Rattle.endpoint_received.specs.Received.{brought_by}

-- the caller's bytes after `received` took n bytes at a place
abbrev pub stored : Bool → List ℕ → List ℕ → ℕ → ℕ → List ℕ
stored by_own bytes own p n = put bytes p (part own 0 (brought_by by_own (Ok (Some n))))

-- The pieces that came, from a position on, and the caller's bytes before and behind them. A piece is what the controller
-- wrote: to the own buffer, or to the caller's bytes from the position on, at most `far` of them. None of this goes beyond `end`.
pub data Receives (end : ℕ) : ℕ → List ℕ → List (List ℕ) → List ℕ → Type 0 where
  nothing : {p : ℕ} {bytes : List ℕ} → Receives end p bytes [] bytes
  then : {p : ℕ} {before final : List ℕ} {pieces : List (List ℕ)} (n far : ℕ) (by_own : Bool) (bytes own : List ℕ)
      → length bytes ≡ length before → take p bytes ≡ take p before → drop (p + far) bytes ≡ drop (p + far) before
      → n ≤ far → p + far ≤ end → p + n ≤ length bytes → (by_own ≡ true → n ≤ length own)
      → Receives end (p + n) (stored by_own bytes own p n) pieces final
      → Receives end p before (piece_of (not by_own) bytes own p n ∷ pieces) final
