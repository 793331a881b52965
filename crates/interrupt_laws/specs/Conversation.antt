-- How long an interrupt's conversation may be.
-- Assumes nothing.
use Rattle.std.specs.Prelude.{ℕ, List, [], ◌∷◌, ◌≡◌, Ok, Option, Some, None}
use Rattle.state.specs.declared.Awaiting.{Awaiting}
use Rattle.state.specs.declared.Awaiting.TheVariants as awaiting
use Rattle.state.specs.declared.Reading.{Reading}
use Rattle.state.specs.declared.State.{State}
use Rattle.state.specs.declared.Events.{Events}
use Rattle.state.specs.Refusals.{first_refusal}
use Rattle.interrupt.specs.Interrupt.{answer_conditions, answer_call}

-- how many readings may still come, the awaited one included: of OUT's chain two come behind the transfer status
abbrev pub readings_left : Option Awaiting → ℕ
readings_left None = 0
readings_left (Some awaiting.LinkFlags) = 9
readings_left (Some awaiting.LinkStatus) = 8
readings_left (Some awaiting.PortCapability) = 7
readings_left (Some awaiting.TermPresStatus) = 6
readings_left (Some awaiting.MessageWord) = 5
readings_left (Some awaiting.WarmResetStatus) = 4
readings_left (Some awaiting.TransferStatus) = 3
readings_left (Some awaiting.ChainPackets) = 2
readings_left (Some awaiting.SetupBytes) = 1
readings_left (Some awaiting.Ep0Length) = 1
readings_left (Some awaiting.Ep0Sequence) = 1
readings_left (Some awaiting.LastLength) = 1

-- a reading, and the room of the list that is lent with it
pub record Given : Type 0 where
  pub room : ℕ
  pub reading : Reading

-- readings given one after the other, none of them refused
abbrev pub AllAccepted : State → Events → List Given → Type 0
AllAccepted s v [] = Unit {0}
AllAccepted s v (g ∷ gs) =
    (first_refusal (answer_conditions g.room s v g.reading) ≡ Ok tt)
    × AllAccepted (answer_call g.room s v g.reading).state (answer_call g.room s v g.reading).events gs
