-- The numbers of document 01: refusals, and the ranges of readings.
-- Assumes nothing.
use Rattle.std.specs.Prelude.{ℕ, Bool, true, leb, Result, Ok, Err}
use Rattle.state.specs.declared.Refusal.{Refusal}
use Rattle.state.specs.declared.Refusal.TheVariants as refusal
use Rattle.state.specs.declared.Reading.{Reading}
use Rattle.state.specs.declared.Reading.TheVariants as reading

-- each refusal with its condition
abbrev pub refusal_number : Refusal → ℕ
-- memory outside RAM
refusal_number refusal.MemoryOutsideRam = 1
-- under 512 bytes after alignment
refusal_number refusal.MemoryTooSmall = 2
-- kind, size or interval
refusal_number refusal.UnfitPacketSize = 3
-- burst, streams or mult
refusal_number refusal.UnfitBurst = 4
refusal_number refusal.WrongDirection = 5
refusal_number refusal.ControlPacketSize = 6
refusal_number refusal.NoDataEndpoint = 7
refusal_number refusal.UnfitBuffer = 8
refusal_number refusal.TooLong = 9
refusal_number refusal.ListTooShort = 10
refusal_number refusal.OutOfRange = 11
refusal_number refusal.NoFreeEndpoint = 20
refusal_number refusal.NoRoom = 21
refusal_number refusal.Disabled = 22
refusal_number refusal.InHand = 23
refusal_number refusal.OutOfTurn = 24
refusal_number refusal.NotSuspended = 25
refusal_number refusal.Unsound = 26

-- 0 where a call isn't refused
abbrev pub check_number : {A : Type 0} → Result A Refusal → ℕ
check_number (Ok x) = 0
check_number (Err r) = refusal_number r

-- refusal 11: endpoint 0–15, EP0 length 0–512, sequence 0–31, packets 0–255, last length 0–65535
abbrev pub reading_in_range : Reading → Bool
reading_in_range (reading.LinkFlags f) = true
reading_in_range (reading.LinkStatus s) = true
reading_in_range (reading.PortCapability b) = true
reading_in_range (reading.MessageWord w) = true
reading_in_range (reading.TransferStatus t) = leb t.ep_id 15
reading_in_range (reading.SetupBytes b) = true
reading_in_range (reading.Ep0Length n) = leb n 512
reading_in_range (reading.Ep0Sequence n) = leb n 31
reading_in_range (reading.ChainPackets n) = leb n 255
reading_in_range (reading.LastLength n) = leb n 65535
