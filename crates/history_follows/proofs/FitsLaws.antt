-- What an accepted begin has made sure of.
-- Assumes nothing.
use Rattle.std.specs.Prelude.{ℕ, ◌%◌, ◌<◌, Bool, true, false, ◌≡◌}
use Rattle.std.proofs.Common.{arith, le-ltb}
use Rattle.base.specs.EachLaws.{and_left, true_not_false}
use Rattle.state.specs.declared.State.{State}
use Rattle.state.specs.declared.Events.{Events}
use Rattle.state.specs.declared.Slot.{Slot}
use Rattle.state_slots.specs.Slots.{slot_size, slot_number, slot_of}
use Rattle.state_sound.specs.Clauses.{in_ram, aligned}
use Rattle.state_sound.proofs.FactLaws.{in_ram_lem, slot_sound, slot_facts}
use Rattle.state_laws.specs.SetterLaws.{enabled_size}
use Rattle.state_laws.specs.SlotLaws.{slot_range}
use Rattle.transfer_piece.specs.declared.Piece.{Piece}
use Rattle.transfer_piece.specs.Piece.{piece_fits}
use Rattle.transfer_laws.specs.BeginKeeps.{AcceptedBegin, piece_ram, piece_whole}
use Rattle.history_follows.specs.Follows.{Fits}

-- a piece that fits, on a slot with packets of a byte at least
pub fits_of : (incoming : Bool) (x : Slot) (p : Piece) → 0 < slot_size x → piece_fits incoming (slot_size x) p.address p.length ≡ true → Fits incoming x p
fits_of incoming x p some h =
    let place = piece_ram incoming (slot_size x) p.address p.length h in
    let ram = in_ram_lem p.address p.length (and_left (in_ram p.address p.length) (aligned p.address) place) in
    record { size = some; low = omega (arith, ram.high); whole = λ q. whole incoming q h }
  where
    whole : (b : Bool) → b ≡ false → piece_fits b (slot_size x) p.address p.length ≡ true → (0 < p.length) × (p.length % slot_size x ≡ 0)
    whole true q k = absurd (true_not_false q)
    whole false q k = let w = piece_whole (slot_size x) p.address p.length k in (w.0, w.1.1)

-- the slot of an accepted begin is enabled, so it has such packets
pub accepted_fits : (s : State) (v : Events) (e : ℕ) (incoming : Bool) (p : Piece) → AcceptedBegin s v e incoming p → Fits incoming (slot_of s e incoming) p
accepted_fits s v e incoming p a =
    let i = slot_number e incoming in
    let range = slot_range e incoming a.endpoint in
    let facts = slot_facts s.powered i (slot_of s e incoming) (le-ltb i 2 range.0) (slot_sound s v a.sound i range.1) in
    fits_of incoming (slot_of s e incoming) p (enabled_size s.powered i (slot_of s e incoming) facts a.ready.enabled) a.fits
