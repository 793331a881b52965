-- The words of a script, and what each stands for (docs/REPLAY.md, the tables of words).
-- Assumes nothing.
use Rattle.std.specs.Prelude.{ℕ, cond, List, [], ◌∷◌, ◌++◌}
use Prim.Native.Char.{code}
use Prim.Native.String.{String, [] as empty, ◌∷◌ as ◌before◌}
use Rattle.tool_lines.specs.Line.{sameb}
use Rattle.tool_words.specs.declared.Word.{Word}
use Rattle.tool_words.specs.declared.Meant.{Meant}
use Rattle.tool_words.specs.declared.Word.TheVariants.{Unfit, Driver, Allocate, Start, On, Off, Enable, Stall, Stalled, Enabled, Raise, Poll, Reset, Wakeup, Begin, Take, Abandon, Report, Move, Next, Setup, DataOut, TakeOut, DataIn, Accept, AcceptAddress, TakeIn, Reject, Generation, Interrupt, LinkFlags, LinkStatus, PortCapability, MessageWord, TransferStatus, SetupBytes, Ep0Length, Ep0Sequence, ChainPackets, LastLength, Show}

-- a text's bytes: each character here is ASCII
abbrev pub bytes : String → List ℕ
bytes empty = []
bytes (c before s) = code c ∷ bytes s

-- a call, and how many numbers it takes at most
infix 75 ◌taking◌
abbrev pub ◌taking◌ : Word → ℕ → Meant
call taking most = record { call = call; most = most }

-- a word of the tables, and what it stands for
infix 70 ◌means◌
pub record Row : Type 0 where
  pub name : String
  pub meant : Meant

abbrev pub ◌means◌ : String → Meant → Row
name means meant = record { name = name; meant = meant }

-- making a driver, starting it, power
abbrev pub driver_rows : List Row
driver_rows =
    "driver" means Driver taking 2
    ∷ "allocate" means Allocate taking 10
    ∷ "start" means Start taking 1
    ∷ "on" means On taking 1
    ∷ "off" means Off taking 0
    ∷ []

-- orders, events, the host woken
abbrev pub bus_rows : List Row
bus_rows =
    "enable" means Enable taking 3
    ∷ "stall" means Stall taking 3
    ∷ "stalled" means Stalled taking 2
    ∷ "enabled" means Enabled taking 2
    ∷ "raise" means Raise taking 1
    ∷ "poll" means Poll taking 0
    ∷ "reset" means Reset taking 0
    ∷ "wakeup" means Wakeup taking 0
    ∷ []

-- transfers, and sends and receives
abbrev pub transfer_rows : List Row
transfer_rows =
    "begin" means Begin taking 5
    ∷ "take" means Take taking 2
    ∷ "abandon" means Abandon taking 2
    ∷ "report" means Report taking 4
    ∷ "move" means Move taking 7
    ∷ "next" means Next taking 8
    ∷ []

-- endpoint 0
abbrev pub control_rows : List Row
control_rows =
    "setup" means Setup taking 0
    ∷ "data_out" means DataOut taking 3
    ∷ "take_out" means TakeOut taking 4
    ∷ "data_in" means DataIn taking 6
    ∷ "accept" means Accept taking 1
    ∷ "accept_address" means AcceptAddress taking 2
    ∷ "take_in" means TakeIn taking 1
    ∷ "reject" means Reject taking 1
    ∷ "generation" means Generation taking 1
    ∷ []

-- an interrupt and its readings
abbrev pub reading_rows : List Row
reading_rows =
    "interrupt" means Interrupt taking 0
    ∷ "link_flags" means LinkFlags taking 7
    ∷ "link_status" means LinkStatus taking 3
    ∷ "port_capability" means PortCapability taking 1
    ∷ "message_word" means MessageWord taking 1
    ∷ "transfer_status" means TransferStatus taking 9
    ∷ "setup_bytes" means SetupBytes taking 8
    ∷ "ep0_length" means Ep0Length taking 1
    ∷ "ep0_sequence" means Ep0Sequence taking 1
    ∷ "chain_packets" means ChainPackets taking 1
    ∷ "last_length" means LastLength taking 1
    ∷ []

-- no call
abbrev pub state_rows : List Row
state_rows =
    "state" means Show taking 0
    ∷ []

abbrev pub rows : List Row
rows = driver_rows ++ (bus_rows ++ (transfer_rows ++ (control_rows ++ (reading_rows ++ (state_rows)))))

-- what the first row with this name says
abbrev pub named : List ℕ → List Row → Meant
named word [] = Unfit taking 0
named word (row ∷ more) = cond (sameb word (bytes row.name)) row.meant (named word more)

unfoldable pub meaning_of : List ℕ → Meant
meaning_of word = named word rows
