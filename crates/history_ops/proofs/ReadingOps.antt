-- What the readings of an interrupt write: a report's chain is all that is recorded, and the address changes by a bus reset and
-- by the end of a status stage alone, in one step.
-- Assumes nothing.
use Rattle.std.specs.Prelude.{ℕ, Bool, true, false, not, ◌&&◌, ◌||◌, cond, List, [], ◌++◌, eqb, leb, ◌≡◌, refl, Option, Some, None}
use Rattle.ops.specs.Ops.{Op}
use Rattle.ops.specs.Numbers as number
use Rattle.state.specs.declared.LinkState.{LinkState}
use Rattle.state.specs.declared.Awaiting.TheVariants as awaiting
use Rattle.state.specs.declared.Awaited.{Awaited}
use Rattle.state.specs.declared.TransferStatus.{TransferStatus}
use Rattle.state.specs.declared.State.{State}
use Rattle.regs_link.specs.Link.{link_ack_ops, link_power_allow_ops}
use Rattle.regs_control.specs.Control.{status_others_ops}
use Rattle.control_report.specs.Ep0.{setup_ops, status_ops, status_done, length_ops, status_follows, sequence_ops}
use Rattle.transfer_report.specs.Report.{report_state, report_ops}
use Rattle.interrupt_link.specs.declared.LinkEffect.{LinkEffect}
use Rattle.interrupt_link.specs.Actions.{changed_ops, term_gone, link_reset, message_ops}
use Rattle.interrupt_asks.specs.Turns.{Heard}
use Rattle.interrupt_asks.specs.Asking.{asked, behind_message_ops, behind_term_ops, behind_change_ops}
use Rattle.interrupt_readings.specs.Matched.{Matched, other, link_flags, link_status, capability, term_status, message, warm_status, transfer_status, setup_bytes, ep0_length, ep0_sequence, chain_packets, last_length}
use Rattle.interrupt_readings.specs.Heard.{seeing, from_change, capability_due, heard_link}
use Rattle.interrupt_transfer.specs.Transfers.{over, asking, chain_asked, ep0_reading, endpoint_turn, status_turn}
use Rattle.interrupt_followers.specs.Followers.{heard_transfer}
use Rattle.history_ops.specs.Recorded.{recorded, Silent}
use Rattle.history_ops.specs.Held.{Moves, Keeps, due}
use Rattle.history_ops.specs.Readings.{Report, reports_in, in_report, report_of, reported, ends_status, resetting, resets_bus}
use Rattle.history_ops.specs.Touched.{Quiet}
use Rattle.history_ops.proofs.RecordedLaws.{silent_append}
use Rattle.history_ops.proofs.HeldLaws.{moves_still, moves_stays, moves_behind, moves_before}
use Rattle.history_ops.proofs.TouchedLaws.{quiet_none, quiet_append}
use Rattle.history_ops.proofs.LinkOps.{link_ack_quiet, link_power_allow_quiet}
use Rattle.history_ops.proofs.ControlOps.{status_others_quiet}
use Rattle.history_ops.proofs.TransferOps.{report_recorded, report_keeps}
use Rattle.history_ops.proofs.Ep0Ops.{setup_quiet, status_silent, status_moves, length_quiet, sequence_quiet}
use Rattle.history_ops.proofs.AskingOps.{behind_message_quiet, behind_term_quiet, behind_change_quiet}
use Rattle.history_ops.proofs.ActionOps.{changed_silent, changed_moves, changed_resets, message_quiet, warmed_silent, warmed_moves}

-- ---- the link's

module _ (ep0 : ℕ) (a : Awaited) (l : LinkState) (f : LinkEffect) (before : List Op) (q : Quiet before) where
  abbrev flag : Bool
  flag = a.flags.link_if_state_chg

  abbrev change : List Op
  change = changed_ops flag l ep0 f.low_power

  pub from_change_silent : Silent (from_change ep0 a l f before).ops
  from_change_silent =
      silent_append before (change ++ behind_change_ops a.flags) q.silent
      (silent_append change (behind_change_ops a.flags) (changed_silent flag l ep0 f.low_power) (behind_change_quiet a.flags).silent)

  pub from_change_moves : (x : ℕ) → Moves x (cond (a.flags.link_if_state_chg && resetting l) 0 x) (from_change ep0 a l f before).ops
  from_change_moves x =
      moves_behind before (change ++ behind_change_ops a.flags) (q.keeps x)
      (moves_before change (behind_change_ops a.flags) (changed_moves x flag l ep0 f.low_power) ((behind_change_quiet a.flags).keeps (cond (flag && resetting l) 0 x)))

module _ (ep0 revision : ℕ) (a : Awaited) (f : LinkEffect) where
  abbrev capability_asked : LinkState → Heard LinkEffect
  capability_asked l = record { effect = f; awaited = asked (seeing a l) (Some awaiting.PortCapability); ops = link_ack_ops number.link_if_rx_set_fc }

  abbrev changing : LinkState → Heard LinkEffect
  changing l = from_change ep0 (seeing a l) l f []

  abbrev LinkDoes : List Op → Bool → Type 0
  LinkDoes ops resets = Silent ops × ((x : ℕ) → Moves x (cond resets 0 x) ops)

  still : (ops : List Op) → Quiet ops → LinkDoes ops false
  still ops q = (q.silent, λ x. moves_still (q.keeps x))

  changes : (b : LinkState) (before : List Op) → Quiet before → (y : Awaited) → LinkDoes (from_change ep0 y b f before).ops (y.flags.link_if_state_chg && resetting b)
  changes b before q y = (from_change_silent ep0 y b f before q, from_change_moves ep0 y b f before q)

  link_does : (m : Matched) → LinkDoes (heard_link ep0 revision a f m).ops (resets_bus revision a m)
  unfolding heard_link
  link_does other = still [] quiet_none
  link_does (link_flags g) = still [] quiet_none
  link_does (link_status r) = go (capability_due revision a)
    where
      go : (b : Bool) → LinkDoes (cond b (capability_asked r.link_state) (changing r.link_state)).ops (not b && (a.flags.link_if_state_chg && resetting r.link_state))
      go true = still (link_ack_ops number.link_if_rx_set_fc) (link_ack_quiet number.link_if_rx_set_fc)
      go false = changes r.link_state [] quiet_none (seeing a r.link_state)
  link_does (capability b) = changes a.link_state (link_power_allow_ops b) (link_power_allow_quiet b) a
  link_does (term_status r) = still (behind_term_ops a.flags) (behind_term_quiet a.flags)
  link_does (message w) =
      still (message_ops revision w ++ behind_message_ops a.flags)
      (quiet_append (message_ops revision w) (behind_message_ops a.flags) (message_quiet revision w) (behind_message_quiet a.flags))
  link_does (warm_status r) = (warmed_silent r.link_rx_warm_rst ep0, λ x. warmed_moves x r.link_rx_warm_rst ep0)
  link_does (transfer_status t) = still [] quiet_none
  link_does (setup_bytes b) = still [] quiet_none
  link_does (ep0_length n) = still [] quiet_none
  link_does (ep0_sequence q) = still [] quiet_none
  link_does (chain_packets p) = still [] quiet_none
  link_does (last_length n) = still [] quiet_none

  -- A reading of the link records no chain, and the address goes to 0 where it resets the bus;
  pub link_silent : (m : Matched) → Silent (heard_link ep0 revision a f m).ops
  link_silent m = (link_does m).0

  pub link_moves : (x : ℕ) (m : Matched) → Moves x (cond (resets_bus revision a m) 0 x) (heard_link ep0 revision a f m).ops
  link_moves x m = (link_does m).1 x

  -- there, and nowhere else, the effect has the bus reset.
  pub link_resets : (m : Matched) → (heard_link ep0 revision a f m).effect.resets ≡ (resets_bus revision a m || f.resets)
  unfolding heard_link
  link_resets other = refl
  link_resets (link_flags g) = refl
  link_resets (link_status r) = go (capability_due revision a)
    where
      go : (b : Bool)
          → (cond b (capability_asked r.link_state) (changing r.link_state)).effect.resets ≡ ((not b && (a.flags.link_if_state_chg && resetting r.link_state)) || f.resets)
      go true = refl
      go false = changed_resets a.flags.link_if_state_chg r.link_state f
  link_resets (capability b) = changed_resets a.flags.link_if_state_chg a.link_state f
  link_resets (term_status r) = go r.link_rx_term_pres
    where
      go : (b : Bool) → (cond b f (term_gone f)).resets ≡ f.resets
      go true = refl
      go false = refl
  link_resets (message w) = refl
  link_resets (warm_status r) = go r.link_rx_warm_rst
    where
      go : (b : Bool) → (cond b (link_reset f) f).resets ≡ (b || f.resets)
      go true = refl
      go false = refl
  link_resets (transfer_status t) = refl
  link_resets (setup_bytes b) = refl
  link_resets (ep0_length n) = refl
  link_resets (ep0_sequence q) = refl
  link_resets (chain_packets p) = refl
  link_resets (last_length n) = refl

-- ---- the transfers'

module _ (s : State) where
  abbrev TransferDoes : List Op → Option Report → Bool → Type 0
  TransferDoes ops report ends = ((incoming : Bool) (e : ℕ) → recorded incoming e ops ≡ reported s report incoming e) × ((x : ℕ) → Moves x (cond ends (due s.address x) x) ops)

  quietly : (ops : List Op) → Quiet ops → TransferDoes ops None false
  quietly ops q = (q.silent, λ x. moves_still (q.keeps x))

  endpoint_does : (i : ℕ) (way : Bool) → TransferDoes (endpoint_turn s i way).ops (in_report (not (eqb i 0) && (leb i 7 && way)) i) false
  endpoint_does i way = go (eqb i 0) (leb i 7) way
    where
      go : (b c d : Bool)
          → TransferDoes
          (cond b (asking s (asked s.awaited (Some (ep0_reading d))) [])
          (cond c (cond d (over (report_state s i true 0 0) (report_ops s i true 0 0)) (asking s (chain_asked s.awaited i) [])) (over s []))).ops
          (in_report (not b && (c && d)) i) false
      go true c d = quietly [] quiet_none
      go false true true = (report_recorded s i true 0 0, λ x. moves_still (report_keeps s i true 0 0 x))
      go false true false = quietly [] quiet_none
      go false false d = quietly [] quiet_none

  turn_does : (t : TransferStatus) → TransferDoes (status_turn s t).ops (in_report (reports_in t) t.ep_id) t.udif_status
  unfolding status_turn
  turn_does t = go t.udif_status t.udif_setup t.uif_transfer
    where
      go : (a b c : Bool)
          → TransferDoes
          (cond a (over (status_done s) (status_ops s.address))
          (cond b (asking s (asked s.awaited (Some awaiting.SetupBytes)) setup_ops)
          (cond c (endpoint_turn s t.ep_id t.ep_dir) (over s (status_others_ops t.uif_itp t.uif_rx_ping t.uif_fifo_txov t.uif_fifo_rxov))))).ops
          (in_report (not a && (not b && (c && (not (eqb t.ep_id 0) && (leb t.ep_id 7 && t.ep_dir))))) t.ep_id) a
      go true b c = (status_silent s.address, λ x. status_moves x s.address)
      go false true c = quietly setup_ops setup_quiet
      go false false true = endpoint_does t.ep_id t.ep_dir
      go false false false =
          quietly (status_others_ops t.uif_itp t.uif_rx_ping t.uif_fifo_txov t.uif_fifo_rxov) (status_others_quiet t.uif_itp t.uif_rx_ping t.uif_fifo_txov t.uif_fifo_rxov)

  transfer_does : (m : Matched) → TransferDoes (heard_transfer s m).ops (report_of s.awaited m) (ends_status m)
  unfolding heard_transfer
  transfer_does other = quietly [] quiet_none
  transfer_does (link_flags f) = quietly [] quiet_none
  transfer_does (link_status r) = quietly [] quiet_none
  transfer_does (capability b) = quietly [] quiet_none
  transfer_does (term_status r) = quietly [] quiet_none
  transfer_does (message w) = quietly [] quiet_none
  transfer_does (warm_status r) = quietly [] quiet_none
  transfer_does (transfer_status t) = turn_does t
  transfer_does (setup_bytes b) = quietly [] quiet_none
  transfer_does (ep0_length n) = quietly length_ops length_quiet
  transfer_does (ep0_sequence q) = quietly (sequence_ops (status_follows s)) (sequence_quiet (status_follows s))
  transfer_does (chain_packets p) = quietly [] quiet_none
  transfer_does (last_length n) = (report_recorded s s.awaited.endpoint false s.awaited.packets n, λ x. moves_still (report_keeps s s.awaited.endpoint false s.awaited.packets n x))

  -- A transfer status records the chain that follows a report, and so does a reading behind it; the address is the one that waited
  -- where a status stage ends.
  pub endpoint_recorded : (i : ℕ) (way incoming : Bool) (e : ℕ)
      → recorded incoming e (endpoint_turn s i way).ops ≡ reported s (in_report (not (eqb i 0) && (leb i 7 && way)) i) incoming e
  endpoint_recorded i way = (endpoint_does i way).0

  pub endpoint_keeps : (i : ℕ) (way : Bool) → Keeps (endpoint_turn s i way).ops
  endpoint_keeps i way x = moves_stays ((endpoint_does i way).1 x)

  pub turn_recorded : (t : TransferStatus) (incoming : Bool) (e : ℕ) → recorded incoming e (status_turn s t).ops ≡ reported s (in_report (reports_in t) t.ep_id) incoming e
  turn_recorded t = (turn_does t).0

  pub turn_moves : (x : ℕ) (t : TransferStatus) → Moves x (cond t.udif_status (due s.address x) x) (status_turn s t).ops
  turn_moves x t = (turn_does t).1 x

  pub transfer_recorded : (m : Matched) (incoming : Bool) (e : ℕ) → recorded incoming e (heard_transfer s m).ops ≡ reported s (report_of s.awaited m) incoming e
  transfer_recorded m = (transfer_does m).0

  pub transfer_moves : (x : ℕ) (m : Matched) → Moves x (cond (ends_status m) (due s.address x) x) (heard_transfer s m).ops
  transfer_moves x m = (transfer_does m).1 x
