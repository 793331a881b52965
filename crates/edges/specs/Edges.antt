-- Document 01's starred edges: each row has what the definitions give, and what the paper says.
-- Assumes nothing.
use Rattle.std.specs.Prelude.{ℕ, ◌^◌, Bool, true, false, cond, List, [], ◌∷◌, ◌++◌, map, ◌≡◌, eqb, Some, None, Result, Ok, Err}
use Rattle.ops.specs.declared.numbers.Register.{Register}
use Rattle.ops.specs.Numbers.{register_number, tx_chain_exp_nump, tx_chain_len}
use Rattle.ops.specs.Ops.{Op, write, modify, modify_if_differs, wait, clear_bits, Setting, ◌≔◌, list_numbers}
use Rattle.state.specs.declared.Slot.{Slot}
use Rattle.state.specs.declared.State.{State}
use Rattle.state.specs.declared.Events.{Events}
use Rattle.state.specs.declared.Refusal.{Refusal}
use Rattle.state.specs.Fresh.{fresh_slot, fresh_state}
use Rattle.state.specs.Setters.{with_slot, with_power}
use Rattle.state_slots.specs.Slots.{slot_number, slot_of}
use Rattle.state.specs.declared.EndpointType.{EndpointType}
use Rattle.state.specs.declared.EndpointType.TheVariants.{Bulk, Interrupt}
use Rattle.state.specs.declared.EndpointRequest.{EndpointRequest}
use Rattle.state.specs.declared.Driver.{Driver}
use Rattle.state.specs.Numbers.{check_number}
use Rattle.state.specs.Refusals.{first_refusal}
use Rattle.state_events.specs.Bytes.{suspend, resume}
use Rattle.driver_new.specs.New.{no_driver, new_result}
use Rattle.driver_allocate.specs.Allocate.{allocate_result, allocate_numbers}
use Rattle.transfer_begin.specs.Begin.{begin_call}
use Rattle.transfer_piece.specs.declared.Piece.{Piece}
use Rattle.transfer_piece.specs.Piece.{piece}
use Rattle.transfer_report.specs.Report.{report_state, report_ops}
use Rattle.transfer_take.specs.Take.{take_own, take_numbers, took_at}
use Rattle.bus_events.specs.Raise.{raise_call}
use Rattle.bus_events.specs.Poll.{poll_call, poll_numbers}

-- numbers as answers have them: a refusal's, or 0 and then the values
pub record Edge : Type 0 where
  pub found : List ℕ
  pub paper : List ℕ

infix 70 ◌gives◌
abbrev ◌gives◌ : List ℕ → List ℕ → Edge
found gives paper = record { found = found; paper = paper }

-- a request for any endpoint
abbrev ask : EndpointType → ℕ → ℕ → EndpointRequest
ask kind size interval =
    record {
      endpoint = None;
      ep_type = kind;
      max_packet_size = size;
      interval_ms = interval;
      max_burst = 0;
      max_streams = 0;
      mult = 0;
    }

-- the driver that was made, if one was
abbrev made_of : Result Driver Refusal → Driver
made_of (Ok d) = d
made_of (Err r) = no_driver

-- a driver with so many bytes from the start of RAM on
abbrev driver : ℕ → Driver
driver capacity = made_of (new_result 0x200A0000 capacity)

-- an IN endpoint of it
abbrev given : Driver → EndpointRequest → List ℕ
given d r = allocate_numbers (allocate_result d true r).answer

abbrev after_interrupt : ℕ → Driver
after_interrupt capacity = (allocate_result (driver capacity) true (ask Interrupt 1 1)).driver

abbrev made : ℕ → ℕ → List ℕ
made address length = check_number (new_result address length) ∷ []

abbrev nothing_pending : Events
nothing_pending = record { events = 0 }

-- an event raised, and one asked for, in a fresh state
abbrev raised_by : ℕ → Events → Events
raised_by event v = (raise_call fresh_state v event).events

abbrev polled : Events → List ℕ
polled v = poll_numbers (poll_call fresh_state v).answer

-- a powered device with endpoint 1 enabled, M 1024, its own buffer at the start of RAM
abbrev prepared : Bool → State
prepared incoming =
    with_slot (with_power fresh_state (record { memory = 0; on = true; revision = 0 })) (slot_number 1 incoming)
    (record fresh_slot {
      enabled = true;
      config =
          Some
          (record {
            endpoint = record { index = 1; incoming = incoming };
            ep_type = Bulk;
            max_packet_size = 1024;
            interval_ms = 0;
            max_burst = 0;
            buffer = record { address = 0x200A0000; size = 1024 };
          });
    })

-- a transfer of so many bytes, begun on it
abbrev asked : ℕ → Piece
asked bytes = piece 0x200A0400 bytes false

abbrev begun_with : Bool → ℕ → State
begun_with incoming bytes = (begin_call list_numbers (prepared incoming) nothing_pending 1 incoming (asked bytes) false false).state

abbrev begun_by : ℕ → List Op
begun_by bytes = (begin_call list_numbers (prepared true) nothing_pending 1 true (asked bytes) false false).ops

-- the values that operations write to a register as a whole or to its first field
abbrev value_of : Setting → ℕ
value_of (f ≔ v) = v

abbrev written : Register → List Op → List ℕ
written r [] = []
written r (write q i s ss ∷ os) = cond (eqb (register_number r) (register_number q)) (value_of s ∷ written r os) (written r os)
written r (modify q i s ss ∷ os) = written r os
written r (modify_if_differs q i s ∷ os) = written r os
written r (wait n ∷ os) = written r os
written r (clear_bits q i s ∷ os) = written r os

-- packets and last length of an IN chain, as the registers get them
abbrev chain : List Op → List ℕ
chain os = written tx_chain_exp_nump os ++ written tx_chain_len os

-- how far an OUT transfer has come, and what a take says of its slot: 0 and 0 while it goes on; 0, 1 and its bytes once it
-- is done; 22 if it were idle
abbrev taking : Slot → List ℕ
taking x = x.transfer.progress ∷ take_numbers (took_at (first_refusal (take_own 1 false x)) (2 ^ 32) x).answer

abbrev received : State → List ℕ
received s = taking (slot_of s 1 false)

abbrev after_report : State
after_report = report_state (begun_with false 4096) 1 false 2 1024

-- making and allocating
abbrev pub creation : List Edge
creation =
    -- memory 0x200A0001: 515 bytes accepted, 514 gives 2
    made 0x200A0001 515 gives (0 ∷ [])
    ∷ made 0x200A0001 514 gives (2 ∷ [])
    -- bulk 1024 accepted: endpoint 1, behind EP0's 512 bytes
    ∷ given (driver 1536) (ask Bulk 1024 0) gives (0 ∷ 1 ∷ 0x200A0200 ∷ 1024 ∷ [])
    -- 512 gives 3
    ∷ given (driver 1536) (ask Bulk 512 0) gives (3 ∷ [])
    -- interrupt 1 with interval 0 gives 3
    ∷ given (driver 1536) (ask Interrupt 1 0) gives (3 ∷ [])
    -- interrupt size 1 at offset 512
    ∷ given (driver 1540) (ask Interrupt 1 1) gives (0 ∷ 1 ∷ 0x200A0200 ∷ 1 ∷ [])
    -- after it, bulk starts at 516: capacity 1540 accepted
    ∷ given (after_interrupt 1540) (ask Bulk 1024 0) gives (0 ∷ 2 ∷ 0x200A0204 ∷ 1024 ∷ [])
    -- 1539 gives 21
    ∷ given (after_interrupt 1539) (ask Bulk 1024 0) gives (21 ∷ [])
    ∷ []

-- chains of IN
abbrev pub chains : List Edge
chains =
    -- M 1024, L 0: packets 1, last 0
    chain (begun_by 0) gives (1 ∷ 0 ∷ [])
    -- 1025: 2, 1
    ∷ chain (begun_by 1025) gives (2 ∷ 1 ∷ [])
    -- 261120: 255, 1024
    ∷ chain (begun_by 261120) gives (255 ∷ 1024 ∷ [])
    -- 261121: a second chain 1, 1
    ∷ chain (report_ops (begun_with true 261121) 1 true 0 0) gives (1 ∷ 1 ∷ [])
    ∷ []

-- reports of OUT
abbrev pub reports : List Edge
reports =
    -- OUT L 4096: report (2, 1024) gives 2048, on
    received after_report gives (2048 ∷ 0 ∷ 0 ∷ [])
    -- then (9, 100) gives 3172, done
    ∷ received (report_state after_report 1 false 9 100) gives (3172 ∷ 0 ∷ 1 ∷ 3172 ∷ [])
    ∷ []

-- events
abbrev pub pending : List Edge
pending =
    -- SUSPEND, RESUME: none pending
    polled (raised_by resume (raised_by suspend nothing_pending)) gives (0 ∷ 0 ∷ [])
    ∷ ((raised_by resume (raised_by suspend nothing_pending)).events ∷ []) gives (0 ∷ [])
    ∷ []

abbrev pub edges : List Edge
edges = creation ++ (chains ++ (reports ++ pending))

-- what is found is what the paper says
abbrev pub Right : List Edge → Type 0
Right es = map (λ (e : Edge). e.found) es ≡ map (λ (e : Edge). e.paper) es
