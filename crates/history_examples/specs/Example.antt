-- A history of every kind of call, from the fresh state on, with what each comes to.
-- Assumes nothing.
use Rattle.std.specs.Prelude.{ℕ, Bool, true, false, ◌≡◌, List, [], ◌∷◌, ◌++◌, replicate, Some, None, Ok, Err}
use Rattle.state.specs.declared.EndpointType.{EndpointType}
use Rattle.state.specs.declared.EndpointType.TheVariants as kind
use Rattle.state.specs.declared.LinkState.TheVariants as link
use Rattle.state.specs.declared.Awaiting.TheVariants as awaiting
use Rattle.state.specs.declared.Reading.TheVariants as reading
use Rattle.state.specs.declared.Refusal.TheVariants.{Disabled, InHand, NotSuspended}
use Rattle.state.specs.declared.Driver.{Driver}
use Rattle.state.specs.declared.Tally.{Tally}
use Rattle.state.specs.Fresh.{fresh_state}
use Rattle.state_slots.specs.Slots.{slot_of}
use Rattle.state_events.specs.declared.Event.TheVariants as event
use Rattle.state_events.specs.Bytes.{resume}
use Rattle.driver_new.specs.New.{new_driver}
use Rattle.driver_allocate.specs.Allocate.{allocate_result}
use Rattle.transfer_piece.specs.declared.Piece.{Piece}
use Rattle.transfer_piece.specs.Piece.{piece}
use Rattle.bus_endpoint.specs.declared.Order.TheVariants.{Stall, Enable}
use Rattle.control_stage.specs.declared.Stage.TheVariants.{Accepted}
use Rattle.endpoint_choice.specs.declared.MoveRequest.{MoveRequest}
use Rattle.endpoint_answer.specs.declared.Move.TheVariants as move
use Rattle.usbss.specs.Step.{step}
use Rattle.usbss.specs.Call.{World, Call, Start, PowerOn, PowerOff, Ordered, IsStalled, IsEnabled, Raise, Poll, Wakeup, Begin, Take, Abandon, Send, Sent, Receive, Received, DataOut, DataIn, Accept, AcceptAddress, Reject, TakeOut, TakeIn, Answer}
use Rattle.history_ideal.specs.Ideal.{Sends, Receives}
use Rattle.history_rows.specs.Rows.{Row, rows, final}
use Rattle.history_rows.specs.Memory.{Memory, memory_of}
use Rattle.history_memory.specs.Remembered.{recall}
use Rattle.history_effect.specs.Seen.{begun_by, seen}
use Rattle.history_runs.specs.Runs.{Transfer}
use Rattle.history_runs.specs.Statement.{ideal_on}
use Rattle.history_tally.specs.Ledger.{Ledger, Empty}
use Rattle.history_examples.specs.Lines.{Line, ◌gives◌, ◌recording◌, calls_of}
use Rattle.history_examples.specs.Phrases.{at_in, at_out, chain_ended, nothing_ended, quietly, linked, counted, requested, closed}

-- nothing is pending
abbrev pub start : World
start = record { state = fresh_state; events = record { events = 0 } }

-- ---- the driver

-- an endpoint more, without bursts
abbrev pub with_endpoint : ℕ → Bool → EndpointType → ℕ → Driver → Driver
with_endpoint e incoming kind size d =
    (allocate_result d incoming
    (record {
      endpoint = Some (record { index = e; incoming = incoming });
      ep_type = kind;
      max_packet_size = size;
      interval_ms = 1;
      max_burst = 0;
      max_streams = 0;
      mult = 0;
    })).driver

-- Endpoint 0 has its bytes at 0x200A_0000, and the others have their own buffers behind them: 1 to the host at 0x200A_0200, 1 from
-- it at 0x200A_0600, 2 at 0x200A_0A00 and 3 at 0x200A_0A40.
unfoldable pub driver : Driver
driver =
    with_endpoint 3 false kind.Interrupt 16
    (with_endpoint 2 true kind.Interrupt 64
    (with_endpoint 1 false kind.Bulk 1024
    (with_endpoint 1 true kind.Bulk 1024 (new_driver 0x200A_0000 4096))))

-- ---- the history, part by part

-- the link comes up
abbrev pub brought_up : List Line
brought_up =
    Start driver 512 gives Ok tt
    ∷ PowerOn 640 3 gives Ok tt
    ∷ Poll gives Ok (Some event.PowerDetected)
    ∷ linked link.U0 (Answer 640 nothing_ended gives Ok None ∷ Poll gives Ok (Some event.Reset) ∷ [])

-- SET_ADDRESS to 9, which the status stage writes
abbrev pub addressed : List Line
addressed =
    requested (0 ∷ 5 ∷ 9 ∷ 0 ∷ 0 ∷ 0 ∷ 0 ∷ 0 ∷ []) 2 (AcceptAddress 640 2 9 gives Ok Accepted ∷ closed (TakeIn 2 gives Ok (Some 0) ∷ []))

-- a request for bytes, one with bytes, and one that is rejected
abbrev pub described : List Line
described =
    requested (128 ∷ 6 ∷ 0 ∷ 1 ∷ 0 ∷ 0 ∷ 2 ∷ 0 ∷ []) 3
    (DataIn 640 3 (18 ∷ 1 ∷ []) 0x200A_0000 512 true true gives Ok Accepted
    ∷ quietly
    (Answer 640 (chain_ended 0 true) gives Ok (Some awaiting.Ep0Sequence)
    ∷ Answer 640 (reading.Ep0Sequence 0) gives Ok None
    ∷ TakeIn 3 gives Ok None
    ∷ closed (TakeIn 3 gives Ok (Some 0) ∷ [])))

abbrev pub written : List Line
written =
    requested (33 ∷ 32 ∷ 0 ∷ 0 ∷ 0 ∷ 0 ∷ 7 ∷ 0 ∷ []) 4
    (DataOut 640 4 gives Ok Accepted
    ∷ quietly
    (Answer 640 (chain_ended 0 false) gives Ok (Some awaiting.Ep0Length)
    ∷ Answer 640 (reading.Ep0Length 7) gives Ok None
    ∷ TakeOut 4 64 (replicate 512 0) 0x200A_0000 gives Ok (Some 7)
    ∷ Accept 640 4 gives Ok Accepted
    ∷ closed (TakeIn 4 gives Ok (Some 0) ∷ [])))

abbrev pub rejected : List Line
rejected = requested (128 ∷ 6 ∷ 0 ∷ 6 ∷ 0 ∷ 0 ∷ 10 ∷ 0 ∷ []) 5 (Reject 640 5 gives Ok Accepted ∷ [])

-- the endpoints are put in use
abbrev pub enabled : List Line
enabled =
    Ordered 640 (at_in 1) (Enable true) gives Ok tt
    ∷ Ordered 640 (at_out 1) (Enable true) gives Ok tt
    ∷ Ordered 640 (at_in 2) (Enable true) gives Ok tt
    ∷ Ordered 640 (at_out 3) (Enable true) gives Ok tt
    ∷ Ordered 640 (at_in 2) (Stall true) gives Ok tt
    ∷ IsStalled (at_in 2) gives Ok true
    ∷ Ordered 640 (at_in 2) (Stall false) gives Ok tt
    ∷ IsEnabled (at_in 2) gives Ok true
    ∷ []

-- 256 packets to the host, which the empty packet closes: three chains. Before the first of them ends the transfer is busy, and
-- another one is refused.
abbrev pub image : Piece
image = piece 0x200B_0000 262144 true

abbrev pub image_begins : Call
image_begins = Begin 640 (at_in 1) image

abbrev pub image_goes : List Line
image_goes =
    Take (at_in 1) gives Ok None
    ∷ Begin 640 (at_in 1) image gives Err InHand
    ∷ quietly
    (Answer 640 (chain_ended 1 true) gives Ok None recording Sends 0x200E_FC00 1 1024
    ∷ quietly
    (Answer 640 (chain_ended 1 true) gives Ok None recording Sends 0x200A_0200 1 0
    ∷ quietly
    (Answer 640 (chain_ended 1 true) gives Ok None
    ∷ Take (at_in 1) gives Ok (Some 262144)
    ∷ [])))

abbrev pub image_sent : List Line
image_sent = image_begins gives Ok tt recording Sends 0x200B_0000 255 1024 ∷ image_goes

-- room for four packets from the host: two come, and a short one
abbrev pub room : Piece
room = piece 0x2010_0000 4096 false

abbrev pub room_begins : Call
room_begins = Begin 640 (at_out 1) room

abbrev pub room_goes : List Line
room_goes =
    counted 1 2
    (Answer 640 (reading.LastLength 1024) gives Ok None recording Receives 0x2010_0800 2
    ∷ counted 1 1
    (Answer 640 (reading.LastLength 100) gives Ok None
    ∷ Take (at_out 1) gives Ok (Some 2148)
    ∷ []))

abbrev pub room_received : List Line
room_received = room_begins gives Ok tt recording Receives 0x2010_0000 4 ∷ room_goes

-- four packets that are given up; the report that comes all the same does nothing
abbrev pub four : Piece
four = piece 0x200B_0000 4096 false

abbrev pub given_up : List Line
given_up =
    Begin 640 (at_in 1) four gives Ok tt recording Sends 0x200B_0000 4 1024
    ∷ Abandon 640 (at_in 1) gives Ok 100
    ∷ quietly (Answer 640 (chain_ended 1 true) gives Ok None ∷ Take (at_in 1) gives Err Disabled ∷ [])

-- three bytes of endpoint 2, and one packet of endpoint 3, by their own buffers
abbrev pub three : MoveRequest
three = record { single = false; needs_zlp = false; address = 0x2000_0001; own_address = 0x200A_0A00; position = 0 }

abbrev pub one : MoveRequest
one = record { single = true; needs_zlp = false; address = 0x2000_0010; own_address = 0x200A_0A40; position = 0 }

abbrev pub copied : List Line
copied =
    Send 640 2 three (1 ∷ 2 ∷ 3 ∷ []) 64 gives Ok (move.Begun 3)
    ∷ quietly
    (Answer 640 (chain_ended 2 true) gives Ok None
    ∷ Sent 2 three 3 64 gives Ok (move.Ended 3)
    ∷ Receive 640 3 one 16 16 gives Ok (move.Begun 16)
    ∷ counted 3 1 (Answer 640 (reading.LastLength 5) gives Ok None ∷ Received 3 one 16 (replicate 16 7) gives Ok (move.Ended 5) ∷ []))

-- an event of the caller's
abbrev pub raised : List Line
raised = Raise resume gives Ok tt ∷ Poll gives Ok (Some event.Resume) ∷ []

-- Four packets again. A host that is awake can't be woken; once it has suspended the device it can. Neither cuts anything: the transfer
-- is in hand behind them. A bus reset cuts it, and the power goes.
abbrev pub four_begins : Call
four_begins = Begin 640 (at_in 1) four

abbrev pub four_goes : List Line
four_goes =
    Wakeup 640 gives Err NotSuspended
    ∷ linked link.U3
    (Answer 640 nothing_ended gives Ok None
    ∷ Poll gives Ok (Some event.Suspend)
    ∷ Wakeup 640 gives Ok tt
    ∷ linked link.RECOVERY
    (Answer 640 nothing_ended gives Ok None
    ∷ linked link.U0
    (Answer 640 nothing_ended gives Ok None
    ∷ Poll gives Ok (Some event.Resume)
    ∷ Take (at_in 1) gives Ok None
    ∷ linked link.HOTRST
    (Answer 640 nothing_ended gives Ok None
    ∷ Poll gives Ok (Some event.Reset)
    ∷ Take (at_in 1) gives Err Disabled
    ∷ PowerOff 640 gives Ok tt
    ∷ []))))

abbrev pub cut_off : List Line
cut_off = four_begins gives Ok tt recording Sends 0x200B_0000 4 1024 ∷ four_goes

-- ---- all of it

-- before the transfer to the host, before the one from the host, and before the one that is cut
abbrev pub prepared : List Line
prepared = brought_up ++ (addressed ++ (described ++ (written ++ (rejected ++ enabled))))

abbrev pub sent_before : List Line
sent_before = prepared ++ image_sent

abbrev pub cut_before : List Line
cut_before = sent_before ++ (room_received ++ (given_up ++ (copied ++ raised)))

-- behind the first two
abbrev pub later : List Line
later = given_up ++ (copied ++ (raised ++ cut_off))

abbrev pub received_behind : List Line
received_behind = room_received ++ later

abbrev pub example : List Line
example = prepared ++ (image_sent ++ received_behind)

-- the world that lines leave, and what is remembered behind them
abbrev pub world_behind : List Line → World
world_behind ls = final start (calls_of ls)

abbrev pub memory_behind : List Line → Memory
memory_behind ls = recall (memory_of start.state) (rows start (calls_of ls))

-- what a direction of endpoint 1 has counted at the end
abbrev pub counted_at_end : Bool → Tally
counted_at_end incoming = (slot_of (world_behind example).state 1 incoming).tally

-- One transfer to the host is taken, one given up and one cut by the bus reset; the bytes of both had all been handed over.
abbrev pub sent_ledger : Ledger
sent_ledger = record { tally = record { begun = 3; finished = 1; cut = 2; bytes = 270336 }; hand = Empty }

abbrev pub received_ledger : Ledger
received_ledger = record { tally = record { begun = 1; finished = 1; cut = 0; bytes = 2148 }; hand = Empty }

-- the rows of SET_ADDRESS
abbrev pub address_rows : List Row
address_rows = rows (world_behind brought_up) (calls_of addressed)

-- In the world w, where m is remembered, a call begins a transfer of the piece p, which goes as it should in the rows from there on.
pub record Runs (w : World) (m : Memory) (c : Call) (after : List Call) (e : ℕ) (incoming : Bool) (p : Piece) : Type 0 where
  pub begun : begun_by (seen e incoming m w c (step w c)) ≡ Some p
  pub goes : Transfer e incoming (ideal_on w incoming (slot_of w.state e incoming) p) p m (rows w (c ∷ after))

-- A call of the example behind some lines and before others does: what `EachTransfer` has of it, but for the plan and that it fits.
pub record Transferred (before : List Line) (c : Call) (after : List Line) (e : ℕ) (incoming : Bool) (p : Piece) : Type 0 where
  pub placed : calls_of example ≡ calls_of before ++ c ∷ calls_of after
  pub runs : Runs (world_behind before) (memory_behind before) c (calls_of after) e incoming p
