-- Demand 3: what is to hold of every list of calls, from every sound world.
-- Assumes nothing.
use Rattle.std.specs.Prelude.{ℕ, Bool, true, false, ◌≡◌, List, ◌∷◌, ◌++◌, Some}
use Rattle.state.specs.declared.Slot.{Slot}
use Rattle.state.specs.Setters.{limit_of}
use Rattle.state_slots.specs.Slots.{idleb, data_endpoint, slot_of, slot_size, own_buffer}
use Rattle.transfer_piece.specs.declared.Piece.{Piece}
use Rattle.history_ideal.specs.Ideal.{Ideal, ideal}
use Rattle.history_ideal.specs.Plan.{Planned}
use Rattle.history_follows.specs.Follows.{Fits}
use Rattle.usbss.specs.Call.{World, Call}
use Rattle.usbss.specs.Step.{step}
use Rattle.history_rows.specs.Rows.{rows, final}
use Rattle.history_rows.specs.Memory.{Memory, memory_of}
use Rattle.history_memory.specs.Remembered.{recall}
use Rattle.history_effect.specs.Seen.{begun_by, seen}
use Rattle.history_runs.specs.Runs.{Free, Older, Transfer}

-- how a piece should go on an endpoint with a slot like x
abbrev pub ideal_on : World → Bool → Slot → Piece → Ideal
ideal_on w incoming x p = ideal (limit_of w.state) incoming (own_buffer x).address (slot_size x) p

-- Each call of the list that begins a transfer starts one that goes as it should, in the rows from there on; what it should is what
-- document 01 asks of a transfer; and its bytes lie below 2^32, so that no address wraps.
unfoldable pub EachTransfer : World → List Call → Type 0
EachTransfer w cs =
    (before : List Call) (c : Call) (after : List Call) (e : ℕ) (incoming : Bool) (p : Piece) → cs ≡ before ++ c ∷ after
    → let v : World = final w before in
    let m : Memory = recall (memory_of w.state) (rows w before) in
    let x : Slot = slot_of v.state e incoming in
    begun_by (seen e incoming m v c (step v c)) ≡ Some p
    → Transfer e incoming (ideal_on v incoming x p) p m (rows v (c ∷ after))
    × (Planned (limit_of v.state) incoming (slot_size x) p (ideal_on v incoming x p) × Fits incoming x p)

-- A data slot without a transfer in hand at the start records no chain, and has nothing to take, until a begin is accepted.
unfoldable pub IdleSlots : World → List Call → Type 0
IdleSlots w cs =
    (e : ℕ) (incoming : Bool) (p : Piece) → data_endpoint e ≡ true → idleb (slot_of w.state e incoming).phase ≡ true
    → Free e incoming p (memory_of w.state) (rows w cs)

-- One that has a transfer in hand then has none once that is taken or cut.
unfoldable pub BusySlots : World → List Call → Type 0
BusySlots w cs =
    (e : ℕ) (incoming : Bool) (p : Piece) → data_endpoint e ≡ true → idleb (slot_of w.state e incoming).phase ≡ false
    → Older e incoming p (memory_of w.state) (rows w cs)

pub record WellRun (w : World) (cs : List Call) : Type 0 where
  pub transfers : EachTransfer w cs
  pub idles : IdleSlots w cs
  pub others : BusySlots w cs
