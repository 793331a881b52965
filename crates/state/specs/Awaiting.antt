-- What an interrupt awaits.
-- Assumes nothing.
use Rattle.std.specs.Prelude.{ℕ, Bool, not, eqb, leb, Option, Some, None}
use Rattle.state.specs.declared.Awaiting.{Awaiting}
use Rattle.state.specs.declared.Awaiting.TheVariants as awaiting

-- the readings in the sequence of document 01; 0 where none is awaited
abbrev pub awaiting_number : Option Awaiting → ℕ
awaiting_number None = 0
awaiting_number (Some awaiting.LinkFlags) = 1
awaiting_number (Some awaiting.LinkStatus) = 2
awaiting_number (Some awaiting.PortCapability) = 3
awaiting_number (Some awaiting.TermPresStatus) = 4
awaiting_number (Some awaiting.MessageWord) = 5
awaiting_number (Some awaiting.WarmResetStatus) = 6
awaiting_number (Some awaiting.TransferStatus) = 7
awaiting_number (Some awaiting.SetupBytes) = 8
awaiting_number (Some awaiting.Ep0Length) = 9
awaiting_number (Some awaiting.Ep0Sequence) = 10
awaiting_number (Some awaiting.ChainPackets) = 11
awaiting_number (Some awaiting.LastLength) = 12

-- whether any reading is awaited, and whether it is of a data endpoint's chain
abbrev pub awaitingb : Option Awaiting → Bool
awaitingb s = not (eqb (awaiting_number s) 0)

abbrev pub chain_readingb : Option Awaiting → Bool
chain_readingb s = leb 11 (awaiting_number s)
