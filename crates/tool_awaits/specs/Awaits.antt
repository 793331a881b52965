-- The line that says which reading is awaited (docs/REPLAY.md, "What is printed").
-- Assumes nothing.
use Rattle.std.specs.Prelude.{ℕ, List, ◌++◌, Option, Some, None, codes}
use Rattle.state.specs.declared.Awaiting.{Awaiting}
use Rattle.state.specs.declared.Awaiting.TheVariants as awaiting
use Rattle.tool_print.specs.Text.{tab, line_feed}

-- no name is longer
abbrev pub longest : ℕ
longest = 15

-- the link's status is one reading, at whichever place it is asked
abbrev pub reading_name : Awaiting → List ℕ
reading_name awaiting.LinkFlags = codes "link_flags"
reading_name awaiting.LinkStatus = codes "link_status"
reading_name awaiting.TermPresStatus = codes "link_status"
reading_name awaiting.WarmResetStatus = codes "link_status"
reading_name awaiting.PortCapability = codes "port_capability"
reading_name awaiting.MessageWord = codes "message_word"
reading_name awaiting.TransferStatus = codes "transfer_status"
reading_name awaiting.SetupBytes = codes "setup_bytes"
reading_name awaiting.Ep0Length = codes "ep0_length"
reading_name awaiting.Ep0Sequence = codes "ep0_sequence"
reading_name awaiting.ChainPackets = codes "chain_packets"
reading_name awaiting.LastLength = codes "last_length"

abbrev pub awaited_name : Option Awaiting → List ℕ
awaited_name None = codes "nothing"
awaited_name (Some reading) = reading_name reading

abbrev pub awaits_text : Option Awaiting → List ℕ
awaits_text next = codes "awaits" ++ tab ++ awaited_name next ++ line_feed
