-- What histories are made of: endpoints, readings, and the lines of an interrupt. A list has room for 640 numbers.
-- Assumes nothing.
use Rattle.std.specs.Prelude.{ℕ, Bool, true, false, List, ◌∷◌, Some, None, Ok}
use Rattle.state.specs.declared.EndpointAddress.{EndpointAddress}
use Rattle.state.specs.declared.LinkState.{LinkState}
use Rattle.state.specs.declared.LinkState.TheVariants as link
use Rattle.state.specs.declared.LinkFlags.{LinkFlags}
use Rattle.state.specs.declared.TransferStatus.{TransferStatus}
use Rattle.state.specs.declared.Awaiting.TheVariants as awaiting
use Rattle.state.specs.declared.Reading.{Reading}
use Rattle.state.specs.declared.Reading.TheVariants as reading
use Rattle.state.specs.Fresh.{nothing_awaited}
use Rattle.usbss.specs.Call.{Setup, Interrupt, Answer}
use Rattle.history_examples.specs.Lines.{Line, ◌gives◌}

abbrev pub at_in : ℕ → EndpointAddress
at_in e = record { index = e; incoming = true }

abbrev pub at_out : ℕ → EndpointAddress
at_out e = record { index = e; incoming = false }

-- ---- readings

abbrev pub no_flags : LinkFlags
no_flags = nothing_awaited.flags

abbrev pub link_changed : LinkFlags
link_changed = record no_flags { link_if_state_chg = true }

abbrev pub link_at : LinkState → Reading
link_at l = reading.LinkStatus (record { link_state = l; link_rx_term_pres = true; link_rx_warm_rst = false })

abbrev pub no_transfer : TransferStatus
no_transfer =
    record {
      udif_setup = false;
      udif_status = false;
      uif_transfer = false;
      ep_id = 0;
      ep_dir = false;
      uif_itp = false;
      uif_rx_ping = false;
      uif_fifo_txov = false;
      uif_fifo_rxov = false;
    }

abbrev pub nothing_ended : Reading
nothing_ended = reading.TransferStatus no_transfer

-- a chain of a direction of endpoint e
abbrev pub chain_ended : ℕ → Bool → Reading
chain_ended e incoming = reading.TransferStatus (record no_transfer { uif_transfer = true; ep_id = e; ep_dir = incoming })

abbrev pub setup_came : Reading
setup_came = reading.TransferStatus (record no_transfer { udif_setup = true })

abbrev pub status_ended : Reading
status_ended = reading.TransferStatus (record no_transfer { udif_status = true })

-- ---- interrupts

-- an interrupt up to the transfer status: what the link says, and what follows
abbrev pub interrupted : LinkFlags → LinkState → List Line → List Line
interrupted f l ls =
    Interrupt 640 gives Ok (Some awaiting.LinkFlags)
    ∷ Answer 640 (reading.LinkFlags f) gives Ok (Some awaiting.LinkStatus)
    ∷ Answer 640 (link_at l) gives Ok (Some awaiting.TransferStatus)
    ∷ ls

-- where the link has nothing new, and where it has come to another state
abbrev pub quietly : List Line → List Line
quietly ls = interrupted no_flags link.U0 ls

abbrev pub linked : LinkState → List Line → List Line
linked l ls = interrupted link_changed l ls

-- a chain of OUT has ended: endpoint, packets and last length are read one after the other, and the last one gives what follows
abbrev pub counted : ℕ → ℕ → List Line → List Line
counted e packets ls =
    quietly
    (Answer 640 (chain_ended e false) gives Ok (Some awaiting.ChainPackets)
    ∷ Answer 640 (reading.ChainPackets packets) gives Ok (Some awaiting.LastLength)
    ∷ ls)

-- a SETUP comes and is fetched, under the generation g
abbrev pub requested : List ℕ → ℕ → List Line → List Line
requested bytes g ls =
    quietly
    (Answer 640 setup_came gives Ok (Some awaiting.SetupBytes)
    ∷ Answer 640 (reading.SetupBytes bytes) gives Ok None
    ∷ Setup gives Ok (Some (record { setup = bytes; generation = g }))
    ∷ ls)

-- the status stage ends
abbrev pub closed : List Line → List Line
closed ls = quietly (Answer 640 status_ended gives Ok None ∷ ls)
