-- A reading, told apart by what is awaited: the link's status is asked at three places, and a reading of another kind than
-- the awaited one is `other`.
-- Assumes nothing.
use Rattle.std.specs.Prelude.{ℕ, Bool, not, cond, List, [], ◌∷◌, eqb, Option, Some, None}
use Rattle.state.specs.declared.LinkFlags.{LinkFlags}
use Rattle.state.specs.declared.LinkStatus.{LinkStatus}
use Rattle.state.specs.declared.TransferStatus.{TransferStatus}
use Rattle.state.specs.declared.Awaiting.{Awaiting}
use Rattle.state.specs.declared.Awaiting.TheVariants as awaiting
use Rattle.state.specs.declared.Reading.{Reading}
use Rattle.state.specs.declared.Reading.TheVariants as reading
use Rattle.state.specs.declared.Refusal.TheVariants.{OutOfTurn, OutOfRange}
use Rattle.state.specs.Awaiting.{awaiting_number}
use Rattle.state.specs.Numbers.{reading_in_range}
use Rattle.state.specs.Refusals.{Condition, ◌if◌}

pub data Matched : Type 0 where
  other : Matched
  link_flags : LinkFlags → Matched
  link_status : LinkStatus → Matched
  capability : Bool → Matched
  term_status : LinkStatus → Matched
  message : ℕ → Matched
  warm_status : LinkStatus → Matched
  transfer_status : TransferStatus → Matched
  setup_bytes : List ℕ → Matched
  ep0_length : ℕ → Matched
  ep0_sequence : ℕ → Matched
  chain_packets : ℕ → Matched
  last_length : ℕ → Matched

-- n is the number of what is awaited, its place in document 01's sequence
abbrev pub matched : ℕ → Reading → Matched
matched n (reading.LinkFlags f) = cond (eqb n 1) (link_flags f) other
matched n (reading.LinkStatus r) = cond (eqb n 2) (link_status r) (cond (eqb n 4) (term_status r) (cond (eqb n 6) (warm_status r) other))
matched n (reading.PortCapability b) = cond (eqb n 3) (capability b) other
matched n (reading.MessageWord w) = cond (eqb n 5) (message w) other
matched n (reading.TransferStatus t) = cond (eqb n 7) (transfer_status t) other
matched n (reading.SetupBytes b) = cond (eqb n 8) (setup_bytes b) other
matched n (reading.Ep0Length l) = cond (eqb n 9) (ep0_length l) other
matched n (reading.Ep0Sequence q) = cond (eqb n 10) (ep0_sequence q) other
matched n (reading.ChainPackets p) = cond (eqb n 11) (chain_packets p) other
matched n (reading.LastLength l) = cond (eqb n 12) (last_length l) other

abbrev pub matched_as : Option Awaiting → Reading → Matched
matched_as next r = matched (awaiting_number next) r

-- the ten kinds of readings, and the kind that is awaited
abbrev pub kind_number : Reading → ℕ
kind_number (reading.LinkFlags f) = 1
kind_number (reading.LinkStatus r) = 2
kind_number (reading.PortCapability b) = 3
kind_number (reading.MessageWord w) = 4
kind_number (reading.TransferStatus t) = 5
kind_number (reading.SetupBytes b) = 6
kind_number (reading.Ep0Length n) = 7
kind_number (reading.Ep0Sequence q) = 8
kind_number (reading.ChainPackets p) = 9
kind_number (reading.LastLength n) = 10

abbrev pub wanted_kind : Option Awaiting → ℕ
wanted_kind None = 0
wanted_kind (Some awaiting.LinkFlags) = 1
wanted_kind (Some awaiting.LinkStatus) = 2
wanted_kind (Some awaiting.PortCapability) = 3
wanted_kind (Some awaiting.TermPresStatus) = 2
wanted_kind (Some awaiting.MessageWord) = 4
wanted_kind (Some awaiting.WarmResetStatus) = 2
wanted_kind (Some awaiting.TransferStatus) = 5
wanted_kind (Some awaiting.SetupBytes) = 6
wanted_kind (Some awaiting.Ep0Length) = 7
wanted_kind (Some awaiting.Ep0Sequence) = 8
wanted_kind (Some awaiting.ChainPackets) = 9
wanted_kind (Some awaiting.LastLength) = 10

abbrev pub matchesb : Option Awaiting → Reading → Bool
matchesb next r = eqb (wanted_kind next) (kind_number r)

-- 24 of a reading that isn't the awaited one, 11 of one out of range
abbrev pub reading_own : Option Awaiting → Reading → List Condition
reading_own next r = OutOfTurn if not (matchesb next r) ∷ OutOfRange if not (reading_in_range r) ∷ []
