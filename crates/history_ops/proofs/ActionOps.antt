-- What an interrupt does for the link: it records no chain, and where it resets the bus the address goes to 0.
-- Assumes nothing.
use Rattle.std.specs.Prelude.{ℕ, ◌/◌, ◌%◌, ◌^◌, Bool, true, false, ◌&&◌, ◌||◌, cond, List, [], ◌++◌, eqb, ltb, ◌≡◌, refl}
use Rattle.ops.specs.Ops.{Op}
use Rattle.ops.specs.Numbers as number
use Rattle.state.specs.declared.LinkState.{LinkState}
use Rattle.state.specs.declared.LinkState.TheVariants as link
use Rattle.regs_link.specs.Link.{link_power_allow_ops, link_ack_ops, tx_port_cap_ops, tx_port_cfg_res_ops, tx_cap_vld_ops, go_disabled_ops, hot_reset_done_ops, u2_timer_ops, delay_ops}
use Rattle.regs_device.specs.Device.{bus_reset_ops}
use Rattle.interrupt_link.specs.declared.LinkEffect.{LinkEffect}
use Rattle.interrupt_link.specs.Actions.{recovered_ops, trained, resumed, awake, link_change, link_change_ops, changed, changed_ops, lmp_subtype, message_ops, warmed_ops}
use Rattle.history_ops.specs.Recorded.{Silent}
use Rattle.history_ops.specs.Held.{Moves}
use Rattle.history_ops.specs.Readings.{resetting}
use Rattle.history_ops.specs.Touched.{touches, Quiet}
use Rattle.history_ops.proofs.RecordedLaws.{silent_none, silent_append, silent_cond}
use Rattle.history_ops.proofs.HeldLaws.{stays_none, moves_still, moves_behind, moves_before}
use Rattle.history_ops.proofs.TouchedLaws.{quiet_untouched, quiet_none}
use Rattle.history_ops.proofs.LinkOps.{phy_write_quiet, link_power_allow_quiet, tx_port_cap_quiet, tx_cap_vld_quiet, tx_port_cfg_res_quiet, link_ack_quiet, go_disabled_quiet, hot_reset_done_quiet, u2_timer_quiet}
use Rattle.history_ops.proofs.DeviceOps.{bus_reset_silent, bus_reset_moves}

-- ---- a change of the link's state

pub recovered_quiet : (low : Bool) → Quiet (recovered_ops low)
unfolding touches
recovered_quiet true = quiet_untouched (recovered_ops true) refl
recovered_quiet false = quiet_untouched (recovered_ops false) refl

pub change_silent : (l : LinkState) (ep0 : ℕ) (low : Bool) → Silent (link_change_ops l ep0 low)
change_silent link.U0 ep0 low = silent_none
change_silent link.U1 ep0 low = (phy_write_quiet 0x12 0x65c8).silent
change_silent link.U2 ep0 low = (phy_write_quiet 0x12 0x65c8).silent
change_silent link.U3 ep0 low = (phy_write_quiet 0x12 0x65c8).silent
change_silent link.DISABLED ep0 low = (go_disabled_quiet false).silent
change_silent link.RXDET ep0 low = bus_reset_silent ep0
change_silent link.RECOVERY ep0 low = (recovered_quiet low).silent
change_silent link.HOTRST ep0 low = silent_append (bus_reset_ops ep0) hot_reset_done_ops (bus_reset_silent ep0) hot_reset_done_quiet.silent
change_silent link.OTHER ep0 low = silent_none

pub change_moves : (a : ℕ) (l : LinkState) (ep0 : ℕ) (low : Bool) → Moves a (cond (resetting l) 0 a) (link_change_ops l ep0 low)
change_moves a link.U0 ep0 low = moves_still (stays_none a)
change_moves a link.U1 ep0 low = moves_still ((phy_write_quiet 0x12 0x65c8).keeps a)
change_moves a link.U2 ep0 low = moves_still ((phy_write_quiet 0x12 0x65c8).keeps a)
change_moves a link.U3 ep0 low = moves_still ((phy_write_quiet 0x12 0x65c8).keeps a)
change_moves a link.DISABLED ep0 low = moves_still ((go_disabled_quiet false).keeps a)
change_moves a link.RXDET ep0 low = bus_reset_moves a ep0
change_moves a link.RECOVERY ep0 low = moves_still ((recovered_quiet low).keeps a)
change_moves a link.HOTRST ep0 low = moves_before (bus_reset_ops ep0) hot_reset_done_ops (bus_reset_moves a ep0) (hot_reset_done_quiet.keeps 0)
change_moves a link.OTHER ep0 low = moves_still (stays_none a)

-- where it is flagged
pub changed_silent : (flag : Bool) (l : LinkState) (ep0 : ℕ) (low : Bool) → Silent (changed_ops flag l ep0 low)
changed_silent flag l ep0 low =
    silent_cond flag (link_ack_ops number.link_if_state_chg ++ link_change_ops l ep0 low) []
    (silent_append (link_ack_ops number.link_if_state_chg) (link_change_ops l ep0 low) (link_ack_quiet number.link_if_state_chg).silent (change_silent l ep0 low))
    silent_none

pub changed_moves : (a : ℕ) (flag : Bool) (l : LinkState) (ep0 : ℕ) (low : Bool) → Moves a (cond (flag && resetting l) 0 a) (changed_ops flag l ep0 low)
changed_moves a true l ep0 low =
    moves_behind (link_ack_ops number.link_if_state_chg) (link_change_ops l ep0 low) ((link_ack_quiet number.link_if_state_chg).keeps a) (change_moves a l ep0 low)
changed_moves a false l ep0 low = moves_still (stays_none a)

-- ---- messages, warm reset

pub message_quiet : (revision word : ℕ) → Quiet (message_ops revision word)
message_quiet revision word =
    go (eqb (lmp_subtype word) 4) (eqb (lmp_subtype word) 5) (eqb (lmp_subtype word) 6) (eqb (lmp_subtype word) 2) (eqb (lmp_subtype word) 1 && ltb revision 3)
  where
    go : (a b c d e : Bool)
        → Quiet (cond a tx_port_cap_ops (cond b tx_port_cfg_res_ops (cond c tx_cap_vld_ops (cond d (u2_timer_ops (word / 2 ^ 9 % 2 ^ 8)) (cond e (link_power_allow_ops (eqb (word / 2 ^ 10 % 2) 1)) [])))))
    go true b c d e = tx_port_cap_quiet
    go false true c d e = tx_port_cfg_res_quiet
    go false false true d e = tx_cap_vld_quiet
    go false false false true e = u2_timer_quiet (word / 2 ^ 9 % 2 ^ 8)
    go false false false false true = link_power_allow_quiet (eqb (word / 2 ^ 10 % 2) 1)
    go false false false false false = quiet_none

-- what a warm reset does behind the reset of the bus
abbrev held_down : List Op
held_down = go_disabled_ops true ++ (delay_ops 16 ++ go_disabled_ops false)

held_down_quiet : Quiet held_down
unfolding touches
held_down_quiet = quiet_untouched held_down refl

pub warmed_silent : (warm : Bool) (ep0 : ℕ) → Silent (warmed_ops warm ep0)
warmed_silent warm ep0 =
    silent_cond warm (bus_reset_ops ep0 ++ held_down) [] (silent_append (bus_reset_ops ep0) held_down (bus_reset_silent ep0) held_down_quiet.silent) silent_none

pub warmed_moves : (a : ℕ) (warm : Bool) (ep0 : ℕ) → Moves a (cond warm 0 a) (warmed_ops warm ep0)
warmed_moves a true ep0 = moves_before (bus_reset_ops ep0) held_down (bus_reset_moves a ep0) (held_down_quiet.keeps 0)
warmed_moves a false ep0 = moves_still (stays_none a)

-- ---- the bus is reset, as the effect has it, where the address becomes 0

pub change_resets : (l : LinkState) (f : LinkEffect) → (link_change l f).resets ≡ (resetting l || f.resets)
change_resets link.U0 f = go f.reset_seen f.suspended
  where
    go : (b c : Bool) → (cond b (cond c (resumed f) f) (trained f)).resets ≡ f.resets
    go true true = refl
    go true false = refl
    go false c = refl
change_resets link.U1 f = refl
change_resets link.U2 f = refl
change_resets link.U3 f = refl
change_resets link.DISABLED f = refl
change_resets link.RXDET f = refl
change_resets link.RECOVERY f = go f.low_power
  where
    go : (b : Bool) → (cond b (awake f) f).resets ≡ f.resets
    go true = refl
    go false = refl
change_resets link.HOTRST f = refl
change_resets link.OTHER f = refl

pub changed_resets : (flag : Bool) (l : LinkState) (f : LinkEffect) → (changed flag l f).resets ≡ ((flag && resetting l) || f.resets)
changed_resets true l f = change_resets l f
changed_resets false l f = refl
