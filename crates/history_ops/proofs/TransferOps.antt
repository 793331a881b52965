-- Transfers: a begin and a report record the one chain that they hand over, the windows and the rest none; the address stays.
-- Assumes nothing.
use Rattle.std.specs.Prelude.{ℕ, Bool, true, false, [], ◌≡◌, Some}
use Rattle.std.proofs.Common.{◌∙◌}
use Rattle.state.specs.declared.State.{State}
use Rattle.state.specs.Setters.{limit_of}
use Rattle.state.specs.Fresh.{slot_at}
use Rattle.state_slots.specs.Slots.{busyb, slot_number, slot_of}
use Rattle.regs_endpoint.specs.Endpoint.{window_ops, chain_ack_ops}
use Rattle.transfer_chain.specs.Chains.{next_chain, queue_ops}
use Rattle.transfer_window.specs.Window.{in_hand_count, window_of, out_window, window_at, windows_ops, own_window_ops}
use Rattle.transfer_piece.specs.declared.Piece.{Piece}
use Rattle.transfer_begin.specs.Begin.{begun_at, in_hand_state, begun_ops}
use Rattle.transfer_step.specs.declared.Step.{Step}
use Rattle.transfer_step.specs.declared.Step.TheVariants.{Ignored, GoesOn, Completes}
use Rattle.transfer_step.specs.Step.{report_step, window_after, list_after}
use Rattle.transfer_report.specs.Report.{ops_after, report_ops, slots_counted}
use Rattle.transfer_report.specs.ReportLaws.{list_after_lem}
use Rattle.history_ops.specs.Recorded.{recorded, handed, follower}
use Rattle.history_ops.specs.Held.{Keeps}
use Rattle.history_ops.specs.Touched.{Quiet}
use Rattle.history_ops.proofs.RecordedLaws.{behind_silent, before_silent}
use Rattle.history_ops.proofs.HeldLaws.{keeps_append}
use Rattle.history_ops.proofs.TouchedLaws.{quiet_none, quiet_cond, quiet_up_to}
use Rattle.history_ops.proofs.EndpointOps.{window_quiet, chain_ack_quiet, queue_recorded, queue_keeps}

-- ---- windows

pub window_at_quiet : (s : State) (window e : ℕ) → Quiet (window_at s window e)
window_at_quiet s window e = quiet_cond (busyb (slot_at s (slot_number e false)).phase) (window_ops e window) [] (window_quiet e window) quiet_none

pub windows_quiet : (s : State) → Quiet (windows_ops s)
unfolding windows_ops
windows_quiet s = quiet_up_to (window_at s (out_window s)) (window_at_quiet s (out_window s)) 7

pub window_after_quiet : (window e : ℕ) (incoming : Bool) → Quiet (window_after window e incoming)
window_after_quiet window e true = quiet_none
window_after_quiet window e false = window_quiet e window

pub own_window_quiet : (s : State) (e : ℕ) (incoming : Bool) → Quiet (own_window_ops s e incoming)
own_window_quiet s e true = quiet_none
own_window_quiet s e false = window_quiet e (out_window s)

-- ---- a begin: the first chain, and no other

pub begun_recorded : (s : State) (i : ℕ) (way : Bool) (p : Piece) (incoming : Bool) (e : ℕ)
    → recorded incoming e (begun_ops s i way p) ≡ handed i way (Some (next_chain (limit_of s) way (begun_at s i way p))) incoming e
begun_recorded s i way p incoming e =
    let windows = windows_ops (in_hand_state s i way p) in
    let chain = queue_ops (limit_of s) i way (begun_at s i way p) in
    behind_silent windows chain (windows_quiet (in_hand_state s i way p)).silent incoming e ∙ queue_recorded (limit_of s) i way (begun_at s i way p) incoming e

pub begun_keeps : (s : State) (i : ℕ) (way : Bool) (p : Piece) → Keeps (begun_ops s i way p)
begun_keeps s i way p =
    keeps_append (windows_ops (in_hand_state s i way p)) (queue_ops (limit_of s) i way (begun_at s i way p)) (windows_quiet (in_hand_state s i way p)).keeps
    (queue_keeps (limit_of s) i way (begun_at s i way p))

-- ---- a report: the next chain where the transfer goes on, else none

pub list_after_recorded : (limit window i : ℕ) (way : Bool) (step : Step) (incoming : Bool) (e : ℕ)
    → recorded incoming e (list_after limit window i way step) ≡ handed i way (follower limit way step) incoming e
list_after_recorded limit window i way Ignored incoming e = quiet_none.silent incoming e
list_after_recorded limit window i way (GoesOn x) incoming e =
    before_silent (queue_ops limit i way x) (window_after window i way) (window_after_quiet window i way).silent incoming e ∙ queue_recorded limit i way x incoming e
list_after_recorded limit window i way (Completes x) incoming e = quiet_none.silent incoming e

pub list_after_keeps : (limit window i : ℕ) (way : Bool) (step : Step) → Keeps (list_after limit window i way step)
list_after_keeps limit window i way Ignored = quiet_none.keeps
list_after_keeps limit window i way (GoesOn x) =
    keeps_append (queue_ops limit i way x) (window_after window i way) (queue_keeps limit i way x) (window_after_quiet window i way).keeps
list_after_keeps limit window i way (Completes x) = quiet_none.keeps

-- the same with the state's own window
pub ops_after_recorded : (s : State) (i : ℕ) (way : Bool) (step : Step) (incoming : Bool) (e : ℕ)
    → recorded incoming e (ops_after s i way step) ≡ handed i way (follower (limit_of s) way step) incoming e
ops_after_recorded s i way step = rw (← list_after_lem s i way step) (list_after_recorded (limit_of s) (window_of (in_hand_count s (slots_counted way))) i way step)

pub ops_after_keeps : (s : State) (i : ℕ) (way : Bool) (step : Step) → Keeps (ops_after s i way step)
ops_after_keeps s i way step = rw (← list_after_lem s i way step) (list_after_keeps (limit_of s) (window_of (in_hand_count s (slots_counted way))) i way step)

module _ (s : State) (i : ℕ) (way : Bool) (packets last : ℕ) where
  abbrev step : Step
  step = report_step (limit_of s) way packets last (slot_of s i way)

  pub report_recorded : (incoming : Bool) (e : ℕ)
      → recorded incoming e (report_ops s i way packets last)
      ≡ handed i way (follower (limit_of s) way (report_step (limit_of s) way packets last (slot_of s i way))) incoming e
  unfolding report_ops
  report_recorded incoming e =
      behind_silent (chain_ack_ops i way) (ops_after s i way step) (chain_ack_quiet i way).silent incoming e ∙ ops_after_recorded s i way step incoming e

  pub report_keeps : Keeps (report_ops s i way packets last)
  unfolding report_ops
  report_keeps = keeps_append (chain_ack_ops i way) (ops_after s i way step) (chain_ack_quiet i way).keeps (ops_after_keeps s i way step)
