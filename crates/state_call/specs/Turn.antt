-- The conditions that come before a call's own, in document 01's sequence.
-- Assumes nothing.
use Rattle.std.specs.Prelude.{ℕ, Bool, not, List, ◌∷◌, ltb, Option}
use Rattle.ops.specs.Ops.{list_numbers}
use Rattle.state.specs.declared.Awaiting.{Awaiting}
use Rattle.state.specs.declared.State.{State}
use Rattle.state.specs.declared.Events.{Events}
use Rattle.state.specs.declared.Refusal.TheVariants.{ListTooShort, Unsound, OutOfTurn}
use Rattle.state.specs.Awaiting.{awaitingb}
use Rattle.state.specs.Refusals.{Condition, ◌if◌}
use Rattle.state_sound.specs.Sound.{soundb}
use Rattle.state_call.specs.declared.Entry.{Entry}
use Rattle.state_call.specs.declared.ListEntry.{ListEntry}

-- 26 and 24, by whether everything is sound and by what is awaited
abbrev pub turn_of : Bool → Option Awaiting → List Condition → List Condition
turn_of good next own = Unsound if not good ∷ OutOfTurn if awaitingb next ∷ own

-- 10 before them, of a list with room for so many numbers
abbrev pub admitted_of : ℕ → Bool → Option Awaiting → List Condition → List Condition
admitted_of room good next own = ListTooShort if ltb room list_numbers ∷ turn_of good next own

-- the two by what a call has looked at
abbrev pub turn_at : Entry → List Condition → List Condition
turn_at entry own = turn_of entry.good entry.awaited.next own

abbrev pub admitted_at : ListEntry → List Condition → List Condition
admitted_at lent own = admitted_of lent.room lent.entry.good lent.entry.awaited.next own

-- a call without a list, and one with
abbrev pub in_turn : State → Events → List Condition → List Condition
in_turn s v own = turn_of (soundb s v) s.awaited.next own

abbrev pub admitted : ℕ → State → Events → List Condition → List Condition
admitted room s v own = admitted_of room (soundb s v) s.awaited.next own

-- a reading: 24 is the other way round, of one that isn't the awaited
abbrev pub reading_in : ℕ → State → Events → Bool → List Condition → List Condition
reading_in room s v matches own = ListTooShort if ltb room list_numbers ∷ Unsound if not (soundb s v) ∷ OutOfTurn if not matches ∷ own
