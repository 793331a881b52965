-- What a line of a script says that was read (docs/REPLAY.md, "Interrupts by their readings").
-- Assumes nothing.
use Rattle.std.specs.Prelude.{ℕ, Bool, true, false, cond, ◌&&◌, List, [], ◌∷◌, Option, Some, None, eqb, ltb}
use Rattle.state.specs.declared.LinkFlags.{LinkFlags}
use Rattle.state.specs.declared.LinkState.{LinkState}
use Rattle.state.specs.declared.LinkState.TheVariants as link
use Rattle.state.specs.declared.LinkStatus.{LinkStatus}
use Rattle.state.specs.declared.TransferStatus.{TransferStatus}
use Rattle.state.specs.declared.Reading.{Reading}
use Rattle.state.specs.declared.Reading.TheVariants as reading
use Rattle.tool_words.specs.declared.Word.{Word}
use Rattle.tool_words.specs.declared.Word.TheVariants as word
use Rattle.tool_scripts.specs.Script.{number_at}
use Rattle.tool_arguments.specs.Arguments.{byte_at, flag_at}

abbrev pub link_flags_of : List ℕ → LinkFlags
link_flags_of line =
    record {
      link_if_tx_lmp = flag_at line 0;
      link_if_rx_lmp = flag_at line 1;
      link_if_rx_lmp_tout = flag_at line 2;
      link_if_state_chg = flag_at line 3;
      link_if_warm_rst = flag_at line 4;
      link_if_term_pres = flag_at line 5;
      link_if_rx_set_fc = flag_at line 6;
    }

-- the state of a number; any other is one that the driver doesn't tell apart
abbrev pub link_state_of : ℕ → LinkState
link_state_of n =
    cond (eqb n 1) link.RXDET
    (cond (eqb n 2) link.RECOVERY
    (cond (eqb n 3) link.DISABLED
    (cond (eqb n 4) link.U0
    (cond (eqb n 5) link.U1
    (cond (eqb n 6) link.U2
    (cond (eqb n 7) link.U3
    (cond (eqb n 8) link.HOTRST link.OTHER)))))))

abbrev pub link_status_of : List ℕ → LinkStatus
link_status_of line =
    record {
      link_state = link_state_of (number_at line 0);
      link_rx_term_pres = flag_at line 1;
      link_rx_warm_rst = flag_at line 2;
    }

abbrev pub transfer_status_of : List ℕ → TransferStatus
transfer_status_of line =
    record {
      udif_setup = flag_at line 0;
      udif_status = flag_at line 1;
      uif_transfer = flag_at line 2;
      ep_id = number_at line 3;
      ep_dir = flag_at line 4;
      uif_itp = flag_at line 5;
      uif_rx_ping = flag_at line 6;
      uif_fifo_txov = flag_at line 7;
      uif_fifo_rxov = flag_at line 8;
    }

-- the bytes of a SETUP: a number above 255 is 255
abbrev pub setup_of : List ℕ → List ℕ
setup_of line =
    byte_at line 0 ∷ byte_at line 1 ∷ byte_at line 2 ∷ byte_at line 3
    ∷ byte_at line 4 ∷ byte_at line 5 ∷ byte_at line 6 ∷ byte_at line 7 ∷ []

-- whether a line's first eight numbers are bytes
abbrev pub bytesb : List ℕ → Bool
bytesb line =
    ((((((ltb (number_at line 0) 256 && ltb (number_at line 1) 256) && ltb (number_at line 2) 256) && ltb (number_at line 3) 256)
    && ltb (number_at line 4) 256) && ltb (number_at line 5) 256) && ltb (number_at line 6) 256) && ltb (number_at line 7) 256

-- what a line's numbers are by its word; by a word that is no reading's, the length of a last packet
abbrev pub held_reading : Word → List ℕ → Reading
held_reading word.LinkFlags line = reading.LinkFlags (link_flags_of line)
held_reading word.LinkStatus line = reading.LinkStatus (link_status_of line)
held_reading word.PortCapability line = reading.PortCapability (flag_at line 0)
held_reading word.MessageWord line = reading.MessageWord (number_at line 0)
held_reading word.TransferStatus line = reading.TransferStatus (transfer_status_of line)
held_reading word.SetupBytes line = reading.SetupBytes (setup_of line)
held_reading word.Ep0Length line = reading.Ep0Length (number_at line 0)
held_reading word.Ep0Sequence line = reading.Ep0Sequence (number_at line 0)
held_reading word.ChainPackets line = reading.ChainPackets (number_at line 0)
held_reading word line = reading.LastLength (number_at line 0)

-- whether the word is a reading's, and its numbers can be read
abbrev pub readableb : Word → List ℕ → Bool
readableb word.LinkFlags line = true
readableb word.LinkStatus line = true
readableb word.PortCapability line = true
readableb word.MessageWord line = true
readableb word.TransferStatus line = true
readableb word.SetupBytes line = bytesb line
readableb word.Ep0Length line = true
readableb word.Ep0Sequence line = true
readableb word.ChainPackets line = true
readableb word.LastLength line = true
readableb word line = false

abbrev pub reading_of : Word → List ℕ → Option Reading
reading_of word line = cond (readableb word line) (Some (held_reading word line)) None
