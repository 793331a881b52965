-- Where a report's interrupt is accepted, and what it comes to there: the report itself, and behind it the interrupt's end,
-- which wakes those collected.
-- Assumes nothing.
use Rattle.std.specs.Prelude.{ℕ, Bool, true, false, List, [], ◌≡◌, leb, Ok, Option, None, Result}
use Rattle.std.proofs.lemmas.List.Edits.{sets}
use Rattle.ops.specs.Ops.{flat}
use Rattle.state.specs.declared.State.{State}
use Rattle.state.specs.declared.Events.{Events}
use Rattle.state.specs.declared.Awaiting.{Awaiting}
use Rattle.state.specs.declared.Refusal.{Refusal}
use Rattle.state.specs.Awaiting.{awaitingb}
use Rattle.state_slots.specs.Slots.{data_endpoint}
use Rattle.state_slots.specs.Completing.{collected, ended_state}
use Rattle.state_sound.specs.Sound.{soundb}
use Rattle.state_call.specs.Outcome.{Outcome}
use Rattle.transfer_report.specs.Report.{report_state, report_ops}
use Rattle.interrupt_asks.specs.declared.InterruptResult.{InterruptResult}
use Rattle.tool_reports.specs.Reported.{result_of}

-- a sound state with power, in which no reading is awaited, a data endpoint, and numbers that registers can hold
pub record Reportable (s : State) (v : Events) (e packets last : ℕ) : Type 0 where
  pub sound : soundb s v ≡ true
  pub free : awaitingb s.awaited.next ≡ false
  pub power : s.powered ≡ true
  pub endpoint : data_endpoint e ≡ true
  pub count : leb packets 255 ≡ true
  pub size : leb last 65535 ≡ true

-- the report, ended
abbrev pub ended_report : State → Events → ℕ → Bool → ℕ → ℕ → Outcome (Result (Option Awaiting) Refusal)
ended_report s v e incoming packets last =
    let t = report_state s e incoming packets last in
    record {
      answer = Ok None;
      state = ended_state t;
      events = v;
      ops = report_ops s e incoming packets last;
      wakes = collected v t.wake;
      copied = [];
    }

-- that it is what a result says and what stands in the list, which was l
pub record Plain (s : State) (v : Events) (e : ℕ) (incoming : Bool) (packets last : ℕ) (l : List ℕ) (r : InterruptResult) (l' : List ℕ) : Type 0 where
  pub result : r ≡ result_of (ended_report s v e incoming packets last)
  pub list : l' ≡ sets l 0 (flat (report_ops s e incoming packets last))
