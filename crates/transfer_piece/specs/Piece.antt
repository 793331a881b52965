-- What is to be moved, the conditions that it meets, and the slot that has taken it on (reference: `run` of endpoint.rs).
-- Assumes nothing.
use Rattle.std.specs.Prelude.{ℕ, ◌+◌, ◌%◌, ◌^◌, Bool, true, false, not, ◌&&◌, ◌||◌, List, [], ◌∷◌, nat_lt}
use Rattle.state.specs.declared.Phase.TheVariants.{Busy}
use Rattle.state.specs.declared.Slot.{Slot}
use Rattle.state.specs.declared.Refusal.TheVariants.{NoDataEndpoint, TooLong, Disabled, InHand, UnfitBuffer}
use Rattle.state.specs.Refusals.{Condition, ◌if◌}
use Rattle.state_slots.specs.Slots.{idleb, slot_size, data_endpoint, ready, changed_slot}
use Rattle.state_sound.specs.Clauses.{in_ram, aligned, multiple}
use Rattle.transfer_piece.specs.declared.Piece.{Piece}

-- a piece by its parts
abbrev pub piece : ℕ → ℕ → Bool → Piece
piece address length zlp = record { address = address; length = length; zlp = zlp }

-- refusal 8: in RAM, at a multiple of 4, and for OUT room for whole packets, at least one
abbrev pub piece_fits : Bool → ℕ → ℕ → ℕ → Bool
piece_fits true m address length = in_ram address length && aligned address
piece_fits false m address length = (in_ram address length && aligned address) && (nat_lt 0 length && multiple length m)

-- 7, 9, 22, 23 and 8, of a slot. `long` and `unfit` are the caller's: what it is to send is too long, what it lent is unfit.
abbrev pub begin_own : Bool → ℕ → Bool → ℕ → ℕ → Bool → Bool → Slot → List Condition
begin_own powered e incoming address length long unfit x =
    NoDataEndpoint if not (data_endpoint e)
    ∷ TooLong if long
    ∷ Disabled if not (ready powered x)
    ∷ InHand if not (idleb x.phase)
    ∷ UnfitBuffer if (unfit || not (piece_fits incoming (slot_size x) address length))
    ∷ []

-- the slot has the transfer in hand, with nothing of it moved
abbrev pub begun_slot : Slot → Piece → Slot
begun_slot x p =
    changed_slot x Busy (record { address = p.address; length = p.length; progress = 0; zlp = p.zlp })
    (record x.tally { begun = (x.tally.begun + 1) % 2 ^ 32 })
