-- What the calls so far have told of the device: whether it is on, its revision, and what an interrupt in hand has read.
-- Assumes nothing.
use Rattle.std.specs.Prelude.{ℕ, Bool, true, false, ◌≡◌, Result, Ok, Err}
use Rattle.state.specs.declared.State.{State}
use Rattle.state.specs.declared.Awaited.{Awaited}
use Rattle.state.specs.declared.Refusal.{Refusal}
use Rattle.state_sound.specs.Sound.{soundb}
use Rattle.usbss.specs.Call.{World}

-- 26 doesn't refuse it
abbrev pub Sound : World → Type 0
Sound w = soundb w.state w.events ≡ true

-- a call that isn't refused
abbrev pub accepted : {A : Type 0} → Result A Refusal → Bool
accepted (Ok a) = true
accepted (Err r) = false

pub record Memory : Type 0 where
  pub powered : Bool
  pub revision : ℕ
  -- the reading that is awaited, and what was read before it
  pub awaited : Awaited

abbrev pub memory_of : State → Memory
memory_of s = record { powered = s.powered; revision = s.revision; awaited = s.awaited }
