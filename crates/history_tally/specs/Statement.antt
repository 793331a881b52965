-- What holds of the tally of a data slot, over every list of calls.
-- Assumes nothing.
use Rattle.std.specs.Prelude.{ℕ, ◌+◌, ◌-◌, ◌%◌, ◌^◌, Bool, ◌≡◌, List}
use Rattle.base.specs.Bits.{bit}
use Rattle.state.specs.declared.Tally.{Tally}
use Rattle.state_slots.specs.Slots.{slot_of}
use Rattle.usbss.specs.Call.{World, Call}
use Rattle.history_rows.specs.Rows.{rows, final}
use Rattle.history_rows.specs.Memory.{memory_of}
use Rattle.history_tally.specs.Ledger.{Ledger, holds, plus, ledger, ledger_of}
use Rattle.history_tally.specs.Kept.{Tells}

-- the ledger at the end of a list of calls
abbrev pub ledger_at : ℕ → Bool → World → List Call → Ledger
ledger_at e incoming w cs = ledger e incoming (memory_of w.state) (ledger_of (slot_of w.state e incoming)) (rows w cs)

-- what `begun` is to equal
abbrev pub account : Ledger → ℕ
account l = (l.tally.finished + l.tally.cut + bit (holds l.hand)) % 2 ^ 32

-- begun = finished + cut + in hand, modulo 2^32
abbrev pub Balanced : Ledger → Type 0
Balanced l = l.tally.begun % 2 ^ 32 ≡ account l

-- begun less what it is to equal, modulo 2^32
abbrev pub difference : Ledger → ℕ
difference l = (l.tally.begun + (2 ^ 32 - account l)) % 2 ^ 32

-- a tally of nothing
abbrev pub no_tally : Tally
no_tally = record { begun = 0; finished = 0; cut = 0; bytes = 0 }

-- what the rows of a list say by themselves: the ledger where nothing is counted at the start
abbrev pub said : ℕ → Bool → World → List Call → Ledger
said e incoming w cs =
    ledger e incoming (memory_of w.state) (record { tally = no_tally; hand = (ledger_of (slot_of w.state e incoming)).hand }) (rows w cs)

-- each count of v is u's added to t's, modulo 2^32
pub record Sums (t u v : Tally) : Type 0 where
  pub begun : v.begun % 2 ^ 32 ≡ plus t.begun u.begun
  pub finished : v.finished % 2 ^ 32 ≡ plus t.finished u.finished
  pub cut : v.cut % 2 ^ 32 ≡ plus t.cut u.cut
  pub bytes : v.bytes % 2 ^ 32 ≡ plus t.bytes u.bytes

-- the ledger l is k added to the tally t
pub record Added (t : Tally) (k l : Ledger) : Type 0 where
  pub hand : l.hand ≡ k.hand
  pub tally : Sums t k.tally l.tally

pub record Tallied (w : World) (cs : List Call) (e : ℕ) (incoming : Bool) : Type 0 where
  -- what the slot has at the end is what the ledger has,
  pub tells : Tells (slot_of (final w cs).state e incoming) (ledger_at e incoming w cs)
  -- which is what the rows say, added to what the slot's tally said at the start
  pub added : Added (slot_of w.state e incoming).tally (said e incoming w cs) (ledger_at e incoming w cs)
  -- and its difference is the one of the start
  pub same : difference (ledger_at e incoming w cs) ≡ difference (ledger_of (slot_of w.state e incoming))
