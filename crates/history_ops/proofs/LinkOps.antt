-- What is done to the registers of the link layer and of the PHY: it records no chain and leaves the address.
-- Assumes nothing.
use Rattle.std.specs.Prelude.{ℕ, Bool, refl}
use Rattle.ops.specs.declared.numbers.Field.{Field}
use Rattle.regs_link.specs.Link.{phy_write_ops, link_power_allow_ops, tx_port_cap_ops, tx_cap_vld_ops, tx_port_cfg_res_ops, link_ack_ops, go_disabled_ops, go_rx_det_ops, ux_exit_ops, hot_reset_done_ops, u2_timer_ops, delay_ops}
use Rattle.regs_init.specs.Init.{phy_unnamed_ops, phy_tuning_ops, link_up_ops, init_ops}
use Rattle.history_ops.specs.Touched.{touches, Quiet}
use Rattle.history_ops.proofs.TouchedLaws.{quiet_untouched, quiet_append}

pub phy_write_quiet : (addr value : ℕ) → Quiet (phy_write_ops addr value)
unfolding touches
phy_write_quiet addr value = quiet_untouched (phy_write_ops addr value) refl

pub link_power_allow_quiet : (allow : Bool) → Quiet (link_power_allow_ops allow)
unfolding touches
link_power_allow_quiet allow = quiet_untouched (link_power_allow_ops allow) refl

pub tx_port_cap_quiet : Quiet tx_port_cap_ops
unfolding touches
tx_port_cap_quiet = quiet_untouched tx_port_cap_ops refl

pub tx_cap_vld_quiet : Quiet tx_cap_vld_ops
unfolding touches
tx_cap_vld_quiet = quiet_untouched tx_cap_vld_ops refl

pub tx_port_cfg_res_quiet : Quiet tx_port_cfg_res_ops
unfolding touches
tx_port_cfg_res_quiet = quiet_untouched tx_port_cfg_res_ops refl

pub link_ack_quiet : (flag : Field) → Quiet (link_ack_ops flag)
unfolding touches
link_ack_quiet flag = quiet_untouched (link_ack_ops flag) refl

pub go_disabled_quiet : (on : Bool) → Quiet (go_disabled_ops on)
unfolding touches
go_disabled_quiet on = quiet_untouched (go_disabled_ops on) refl

pub go_rx_det_quiet : Quiet go_rx_det_ops
unfolding touches
go_rx_det_quiet = quiet_untouched go_rx_det_ops refl

pub ux_exit_quiet : Quiet ux_exit_ops
unfolding touches
ux_exit_quiet = quiet_untouched ux_exit_ops refl

pub hot_reset_done_quiet : Quiet hot_reset_done_ops
unfolding touches
hot_reset_done_quiet = quiet_untouched hot_reset_done_ops refl

pub u2_timer_quiet : (timeout : ℕ) → Quiet (u2_timer_ops timeout)
unfolding touches
u2_timer_quiet timeout = quiet_untouched (u2_timer_ops timeout) refl

pub delay_quiet : (cycles : ℕ) → Quiet (delay_ops cycles)
unfolding touches
delay_quiet cycles = quiet_untouched (delay_ops cycles) refl

-- ---- from reset on

pub phy_unnamed_quiet : Quiet phy_unnamed_ops
unfolding touches
phy_unnamed_quiet = quiet_untouched phy_unnamed_ops refl

pub phy_tuning_quiet : Quiet phy_tuning_ops
unfolding touches
phy_tuning_quiet = quiet_untouched phy_tuning_ops refl

pub link_up_quiet : (revision : ℕ) → Quiet (link_up_ops revision)
unfolding touches
link_up_quiet revision = quiet_untouched (link_up_ops revision) refl

pub init_quiet : (revision : ℕ) → Quiet (init_ops revision)
init_quiet revision = quiet_append (link_up_ops revision) phy_tuning_ops (link_up_quiet revision) phy_tuning_quiet
