-- Bytes that an OUT stage copies to the start of what it is lent.
-- Assumes nothing.
use Rattle.std.specs.Prelude.{ℕ, List, ◌++◌, ◌≡◌, length, take, drop}
use Rattle.std.proofs.Common.{◌∙◌}
use Rattle.std.proofs.Math.Seq.{take-length}
use Rattle.state_call.specs.Outcome.{front}

pub copied_front : (l d : List ℕ) (n : ℕ) {x : List ℕ} → x ≡ take (length (take n l)) (take n l) ++ drop (length (take n l)) d → x ≡ front (take n l) d
copied_front l d n e = e ∙ rw (take-length (take n l))
