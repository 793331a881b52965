-- The pieces of a send, one after the other.
-- Assumes nothing.
use Rattle.std.specs.Prelude.{ℕ, ◌+◌, Bool, true, false, List, [], ◌∷◌, ◌++◌, ◌≡◌}
use Rattle.base.specs.Bits.{bit}
use Rattle.state.specs.declared.Phase.TheVariants.{Done}
use Rattle.state.specs.declared.Slot.{Slot}
use Rattle.state_slots.specs.Slots.{moved_slot}
use Rattle.endpoint_parts.specs.Parts.{part}
use Rattle.endpoint_choice.specs.declared.Asked.{Asked}
use Rattle.endpoint_choice.specs.Choice.{place, send_piece, send_begins}
use Rattle.endpoint_answer.specs.declared.Move.{Move}
use Rattle.endpoint_answer.specs.declared.Move.TheVariants as move
use Rattle.endpoint_sent.specs.Sent.{sent_next}

-- what the caller asks for, from another position
abbrev pub standing : Asked → ℕ → Asked
standing k p = record k { position = p }

-- the caller's bytes of the next piece
abbrev pub handed : Slot → Asked → List ℕ → List ℕ
handed x k bytes = part bytes (place k) (send_piece x k).length

-- the slot with that piece sent, and what `sent` says then
abbrev pub sent_slot : Slot → Asked → Slot
sent_slot x k = moved_slot x Done (record { address = (send_piece x k).address; length = (send_piece x k).length; progress = (send_piece x k).length; zlp = false })

abbrev pub sent_then : Slot → Asked → Move
sent_then x k = sent_next (sent_slot x k) k (send_piece x k).length

-- The bytes of the pieces from a position on. A piece is begun where `send` begins one and taken when it is sent; `sent`
-- says whether there is another, and from where.
pub data Sends (x : Slot) (k : Asked) (bytes : List ℕ) : ℕ → List (List ℕ) → Type 0 where
  nothing : {p : ℕ} → send_begins x (standing k p) ≡ false → Sends x k bytes p []
  last : {p total : ℕ} → send_begins x (standing k p) ≡ true → sent_then x (standing k p) ≡ move.Ended total → Sends x k bytes p (handed x (standing k p) bytes ∷ [])
  then : {p q : ℕ} {ps : List (List ℕ)} → send_begins x (standing k p) ≡ true → sent_then x (standing k p) ≡ move.More q → Sends x k bytes q ps
      → Sends x k bytes p (handed x (standing k p) bytes ∷ ps)

-- there is such a list: the pieces come to an end
pub record Ends (x : Slot) (k : Asked) (bytes : List ℕ) (p : ℕ) : Type 0 where
  pub pieces : List (List ℕ)
  pub are : Sends x k bytes p pieces

-- the bytes of all pieces, in sequence
abbrev pub together : List (List ℕ) → List ℕ
together [] = []
together (piece ∷ pieces) = piece ++ together pieces

-- how many pieces are without a byte
abbrev pub emptyb : List ℕ → Bool
emptyb [] = true
emptyb (byte ∷ bytes) = false

abbrev pub empties : List (List ℕ) → ℕ
empties [] = 0
empties (piece ∷ pieces) = bit (emptyb piece) + empties pieces
