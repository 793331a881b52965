-- Histories that differ from a right one in one row, or from one row on. Their rows are made by hand; a right one and its wrong ones
-- are one function of what may differ.
-- Assumes nothing.
use Rattle.std.specs.Prelude.{ℕ, true, false, map, List, [], ◌∷◌, ◌++◌, replicate, Option, Some, None, Ok}
use Rattle.ops.specs.Ops.{Op}
use Rattle.state.specs.declared.Awaiting.{Awaiting}
use Rattle.state.specs.declared.Awaiting.TheVariants as awaiting
use Rattle.state.specs.declared.Reading.TheVariants as reading
use Rattle.state_slots.specs.Slots.{slot_of}
use Rattle.state_slots.specs.Waking.{no_wakes}
use Rattle.regs_endpoint.specs.Endpoint.{chain_in_ops, chain_out_ops, chain_ack_ops, abort_ops}
use Rattle.regs_control.specs.Control.{address_ops}
use Rattle.transfer_piece.specs.declared.Piece.{Piece}
use Rattle.transfer_piece.specs.Piece.{piece}
use Rattle.control_stage.specs.declared.Stage.TheVariants.{Accepted}
use Rattle.control_accept.specs.Accept.{accept_ops}
use Rattle.control_report.specs.Ep0.{status_ops}
use Rattle.usbss.specs.Call.{Call, Begin, Take, Abandon, AcceptAddress, Answer, Answers}
use Rattle.history_ideal.specs.Ideal.{Ideal}
use Rattle.history_rows.specs.Rows.{Row}
use Rattle.history_rows.specs.Memory.{Memory, memory_of}
use Rattle.history_effect.specs.Seen.{Told}
use Rattle.history_runs.specs.Statement.{ideal_on}
use Rattle.history_examples.specs.Lines.{Line, ◌gives◌}
use Rattle.history_examples.specs.Phrases.{at_in, at_out, chain_ended, status_ended, quietly, counted}
use Rattle.history_examples.specs.Example.{room}
use Rattle.history_examples.specs.Ready.{ready}

-- what is remembered
abbrev pub on : Memory
on = memory_of ready.state

-- a row with these operations; its world is looked at nowhere
abbrev pub row : (c : Call) → Answers c → List Op → Row
row c a ops =
    record {
      world = ready;
      call = c;
      outcome =
          record {
            answer = a;
            state = ready.state;
            events = ready.events;
            ops = ops;
            wakes = no_wakes;
            copied = [];
          };
    }

-- without operations
abbrev pub bare : List Line → List Row
bare ls = map (λ (l : Line). row l.call l.answer []) ls

-- ---- to the host: a packet and the empty packet, in two chains

abbrev pub packet : Piece
packet = piece 0x200B_0000 1024 true

abbrev pub packet_ideal : Ideal
packet_ideal = ideal_on ready true (slot_of ready.state 1 true) packet

abbrev pub packet_begun : Row
packet_begun = row (Begin 640 (at_in 1) packet) (Ok tt) (chain_in_ops 1 0x200B_0000 1024 1024 1)

abbrev pub packet_taken : Told → Row
packet_taken a = row (Take (at_in 1)) a []

-- from the endpoint's own buffer
abbrev pub empty_packet : List Op
empty_packet = chain_in_ops 1 0x200A_0200 1024 0 1

-- the end of a chain, with what is recorded behind it
abbrev pub packet_reported : List Op → List Row → List Row
packet_reported chain rs = bare (quietly []) ++ (row (Answer 640 (chain_ended 1 true)) (Ok None) (chain_ack_ops 1 true ++ chain) ∷ rs)

-- a take before the first report, what follows the two reports, and a take behind them
abbrev pub sending : Told → List Op → List Op → Told → List Row
sending early first second late =
    packet_begun ∷ packet_taken early ∷ packet_reported first (packet_reported second (packet_taken late ∷ []))

abbrev pub sent_right : List Row
sent_right = sending (Ok None) empty_packet [] (Ok (Some 1024))

-- the result before the transfer is done
abbrev pub told_early : List Row
told_early = sending (Ok (Some 1024)) empty_packet [] (Ok (Some 1024))

-- a report behind which the empty packet is missing
abbrev pub silent_report : List Row
silent_report = sending (Ok None) [] [] (Ok (Some 1024))

-- a second empty packet
abbrev pub second_empty : List Row
second_empty = sending (Ok None) empty_packet empty_packet (Ok (Some 1024))

-- one that is never done
abbrev pub busy_for_ever : List Row
busy_for_ever = sending (Ok None) empty_packet [] (Ok None)

-- another one is begun while it is in hand
abbrev pub begun_twice : List Row
begun_twice = packet_begun ∷ packet_begun ∷ []

-- given up, with what the report that comes then records
abbrev pub giving_up : List Op → List Row
giving_up chain = packet_begun ∷ row (Abandon 640 (at_in 1)) (Ok 100) (abort_ops 1 true) ∷ packet_reported chain []

abbrev pub given_up_right : List Row
given_up_right = giving_up []

-- it goes on all the same
abbrev pub goes_on : List Row
goes_on = giving_up empty_packet

-- ---- from the host, as in the example: room for four packets; two come, and one of 100 bytes

abbrev pub room_ideal : Ideal
room_ideal = ideal_on ready false (slot_of ready.state 1 false) room

-- where the second chain begins and how many packets it has, and a take at the end
abbrev pub receiving : ℕ → ℕ → Told → List Row
receiving place packets late =
    row (Begin 640 (at_out 1) room) (Ok tt) (chain_out_ops 1 0x2010_0000 1024 4)
    ∷ bare (counted 1 2 [])
    ++ (row (Answer 640 (reading.LastLength 1024)) (Ok None) (chain_ack_ops 1 false ++ chain_out_ops 1 place 1024 packets)
    ∷ bare (counted 1 1 [])
    ++ (row (Answer 640 (reading.LastLength 100)) (Ok None) (chain_ack_ops 1 false) ∷ row (Take (at_out 1)) late [] ∷ []))

abbrev pub received_right : List Row
received_right = receiving 0x2010_0800 2 (Ok (Some 2148))

-- over the second of the packets that have come
abbrev pub wrong_place : List Row
wrong_place = receiving 0x2010_0400 2 (Ok (Some 2148))

-- a packet more than there is room for
abbrev pub too_many : List Row
too_many = receiving 0x2010_0800 3 (Ok (Some 2148))

abbrev pub byte_more : List Row
byte_more = receiving 0x2010_0800 2 (Ok (Some 2149))

abbrev pub still_busy : List Row
still_busy = receiving 0x2010_0800 2 (Ok None)

-- ---- the device address: what is written where it is accepted, and where the status stage ends

abbrev pub addressing : List Op → List Op → List Row
addressing accepted ended =
    row (AcceptAddress 640 2 9) (Ok Accepted) accepted ∷ bare (quietly []) ++ (row (Answer 640 status_ended) (Ok None) ended ∷ [])

abbrev pub address_right : List Row
address_right = addressing accept_ops (status_ops (Some 9))

-- before the status stage, where the host still uses the old one
abbrev pub early_address : List Row
early_address = addressing (accept_ops ++ address_ops 9) (status_ops (Some 9))

-- never
abbrev pub no_address : List Row
no_address = addressing accept_ops (status_ops None)

-- another address first, where the status stage ends
abbrev pub detour : List Row
detour = addressing accept_ops (address_ops 5 ++ status_ops (Some 9))

-- ---- an interrupt: a chain of OUT has ended, and what follows it is awaited

-- what the transfer status answers, and what comes behind the packets
abbrev pub hearing : Option Awaiting → List Line → List Row
hearing next ls =
    bare
    (quietly
    (Answer 640 (chain_ended 1 false) gives Ok next
    ∷ Answer 640 (reading.ChainPackets 2) gives Ok (Some awaiting.LastLength)
    ∷ ls))

abbrev pub length_heard : Option Awaiting → Line
length_heard next = Answer 640 (reading.LastLength 1024) gives Ok next

abbrev pub heard_right : List Row
heard_right = hearing (Some awaiting.ChainPackets) (length_heard None ∷ [])

-- handling ends at the status, and the report is never read
abbrev pub early_end : List Row
early_end = hearing None (length_heard None ∷ [])

-- the last length is awaited again and again, n times
abbrev pub same_again : ℕ → List Row
same_again n = hearing (Some awaiting.ChainPackets) (replicate n (length_heard (Some awaiting.LastLength)))
