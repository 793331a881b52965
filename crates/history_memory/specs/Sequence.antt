-- Which reading follows another in an interrupt (document 01, "Registers read in mid-work"): by the readings and the revision
-- alone, whatever was answered.
-- Assumes nothing.
use Rattle.std.specs.Prelude.{ℕ, Bool, not, ◌&&◌, cond, List, [], ◌∷◌, ◌++◌, find, eqb, ltb, leb, Option, Some, None}
use Rattle.state.specs.declared.LinkFlags.{LinkFlags}
use Rattle.state.specs.declared.TransferStatus.{TransferStatus}
use Rattle.state.specs.declared.Awaited.{Awaited}
use Rattle.state.specs.declared.Awaiting.{Awaiting}
use Rattle.state.specs.declared.Awaiting.TheVariants as awaiting
use Rattle.state.specs.declared.Reading.{Reading}
use Rattle.state.specs.declared.Reading.TheVariants as reading
use Rattle.state.specs.Awaiting.{awaiting_number}

-- an interrupt begins with the link's flags; without power nothing is read
abbrev pub first_reading : Bool → Option Awaiting
first_reading powered = cond powered (Some awaiting.LinkFlags) None

-- ---- the link

abbrev pub only_if : Bool → Awaiting → List Awaiting
only_if b k = cond b (k ∷ []) []

-- What an interrupt reads of the link, as its flags ask for it, and then the transfer status. A message that timed out ends handling
-- before the warm reset and the transfers.
abbrev pub link_readings : ℕ → LinkFlags → Bool → List Awaiting
link_readings revision f timed_out =
    (awaiting.LinkFlags ∷ awaiting.LinkStatus ∷ [])
    ++ (only_if (leb 3 revision && f.link_if_rx_set_fc) awaiting.PortCapability
    ++ (only_if f.link_if_term_pres awaiting.TermPresStatus
    ++ (only_if f.link_if_rx_lmp awaiting.MessageWord
    ++ cond timed_out [] (only_if f.link_if_warm_rst awaiting.WarmResetStatus ++ (awaiting.TransferStatus ∷ [])))))

abbrev pub later : ℕ → Awaiting → Bool
later place k = ltb place (awaiting_number (Some k))

-- the timeout has its place behind the messages: where a reading from further on is awaited already, it has ended nothing
abbrev pub times_out : LinkFlags → ℕ → Bool
times_out f place = later place awaiting.WarmResetStatus && f.link_if_rx_lmp_tout

-- the first of them behind a place
unfoldable pub behind_place : ℕ → LinkFlags → ℕ → Option Awaiting
behind_place revision f place = find (later place) (link_readings revision f (times_out f place))

-- ---- the transfers

-- Of endpoint 0 a packet sent is told by its sequence number, one received by its length. Of a data endpoint the packets of OUT are
-- read; IN tells no more.
abbrev pub behind_report : ℕ → Bool → Option Awaiting
behind_report e incoming =
    cond (eqb e 0) (Some (cond incoming awaiting.Ep0Sequence awaiting.Ep0Length))
    (cond (leb e 7 && not incoming) (Some awaiting.ChainPackets) None)

-- a status stage that has ended, a SETUP, a report: the first that is flagged
abbrev pub behind_status : TransferStatus → Option Awaiting
behind_status t =
    cond t.udif_status None (cond t.udif_setup (Some awaiting.SetupBytes) (cond t.uif_transfer (behind_report t.ep_id t.ep_dir) None))

-- The reading that follows an accepted one; where none does, handling has ended.
unfoldable pub follows : ℕ → Awaited → Reading → Option Awaiting
follows revision a (reading.LinkFlags f) = behind_place revision f (awaiting_number a.next)
follows revision a (reading.LinkStatus r) = behind_place revision a.flags (awaiting_number a.next)
follows revision a (reading.PortCapability b) = behind_place revision a.flags (awaiting_number a.next)
follows revision a (reading.MessageWord w) = behind_place revision a.flags (awaiting_number a.next)
follows revision a (reading.TransferStatus t) = behind_status t
follows revision a (reading.SetupBytes b) = None
follows revision a (reading.Ep0Length n) = None
follows revision a (reading.Ep0Sequence q) = None
follows revision a (reading.ChainPackets p) = Some awaiting.LastLength
follows revision a (reading.LastLength n) = None
