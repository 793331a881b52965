-- Demand 3 of document 01: what holds of every list of calls, refused ones among them, from every sound world.
-- Assumes nothing.
use Rattle.std.specs.Prelude.{ℕ, Bool, true, ◌≡◌, List, ◌++◌}
use Rattle.state_slots.specs.Slots.{data_endpoint, slot_of}
use Rattle.usbss.specs.Call.{World, Call}
use Rattle.history_rows.specs.Rows.{rows, final}
use Rattle.history_rows.specs.Memory.{memory_of, Sound}
use Rattle.history_memory.specs.Asked.{EachAsks}
use Rattle.history_runs.specs.Statement.{WellRun}
use Rattle.history_tally.specs.Ledger.{ledger_of}
use Rattle.history_tally.specs.Statement.{ledger_at, Balanced, Tallied}
use Rattle.history_address.specs.Address.{Holds}

pub record EveryHistory (w : World) (cs : List Call) : Type 1 where
  -- One list: the rows of its later calls begin with what its earlier ones left.
  pub list : (before after : List Call) → cs ≡ before ++ after → rows w cs ≡ rows w before ++ rows (final w before) after
  -- Each transfer that a call of the list begins goes as it should until it is taken or cut, and its slot is silent from then until
  -- the next begin.
  pub runs : WellRun w cs
  -- Begun, finished, cut and bytes of each direction of a data endpoint are what the rows of the list say,
  pub tallies : (e : ℕ) (incoming : Bool) → data_endpoint e ≡ true → Tallied w cs e incoming
  -- and begun is finished, cut and in hand, where it was so at the start; from the fresh state on it was.
  pub balances : (e : ℕ) (incoming : Bool) → data_endpoint e ≡ true → Balanced (ledger_of (slot_of w.state e incoming)) → Balanced (ledger_at e incoming w cs)
  -- An address takes hold at a status stage alone, and there the one that was accepted for it.
  pub address : (a : ℕ) → Holds w.state.address a (memory_of w.state) (rows w cs)
  -- Each call of an interrupt asks for the reading that the paper has next, or for none where it has none.
  pub asks : EachAsks (memory_of w.state) (rows w cs)
  -- What the list leaves is sound, so that another one may follow.
  pub sound : Sound (final w cs)
