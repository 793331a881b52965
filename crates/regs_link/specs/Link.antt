-- What is done to the registers of the link layer, and a write to the PHY (reference: regs.rs, and `link_irq` of device.rs).
-- Assumes nothing.
use Rattle.std.specs.Prelude.{ℕ, ◌+◌, ◌*◌, ◌^◌, Bool, List, [], ◌∷◌, ◌++◌}
use Rattle.ops.specs.declared.numbers.Field.{Field}
use Rattle.ops.specs.Numbers as n
use Rattle.ops.specs.Ops.{Op, write, modify, wait, clear_bits, ◌≔◌}
use Rattle.base.specs.Bits.{bit}

-- a value at an address of the PHY, which is reached through two registers
abbrev pub phy_write_ops : ℕ → ℕ → List Op
phy_write_ops addr value =
    write n.phy_cfg_cr 0 (n.phy_cfg_data ≔ value) (n.phy_cfg_addr ≔ addr ∷ n.phy_cfg_write ≔ 1 ∷ [])
    ∷ write n.phy_cfg_dat 0 (n.phy_cfg_data ≔ 1) []
    ∷ []

-- whether the host's requests to enter U1 and U2 (LGO_U1, LGO_U2) are accepted
abbrev pub link_power_allow_ops : Bool → List Op
link_power_allow_ops allow = modify n.link_cfg 0 (n.link_u1_allow ≔ bit allow) (n.link_u2_allow ≔ bit allow ∷ []) ∷ []

-- Word 0 of a link management packet: its subtype in bits 8 to 5 (USB 3.2, 8.4.1), and in bits 15 to 9 a field of the
-- subtype's own.
abbrev pub lmp_word : ℕ → ℕ → ℕ
lmp_word subtype own = subtype * 2 ^ 5 + own * 2 ^ 9

-- a word of the message to be sent
abbrev pub lmp_tx : ℕ → ℕ → Op
lmp_tx place word = write n.link_lmp_tx_data place (n.all ≔ word) []

-- Port Capability (8.4.5), subtype 4: link speed 5 Gbit/s; four header buffers, direction upstream in bits 17 and 16
abbrev pub tx_port_cap_ops : List Op
tx_port_cap_ops = lmp_tx 0 (lmp_word 4 1) ∷ lmp_tx 1 (4 + 2 * 2 ^ 16) ∷ lmp_tx 2 0 ∷ []

-- set once a port configuration was answered, or the answer to one came
abbrev pub tx_cap_vld_ops : List Op
tx_cap_vld_ops = modify n.link_lmp_port_cap 0 (n.link_lmp_tx_cap_vld ≔ 1) [] ∷ []

-- Port Configuration Response (8.4.7), subtype 6: the link speed is accepted
abbrev pub tx_port_cfg_res_ops : List Op
tx_port_cfg_res_ops = (lmp_tx 0 (lmp_word 6 1) ∷ lmp_tx 1 0 ∷ lmp_tx 2 0 ∷ []) ++ tx_cap_vld_ops

-- acknowledges one flag of the link layer
abbrev pub link_ack_ops : Field → List Op
link_ack_ops flag = write n.link_int_flag 0 (flag ≔ 1) [] ∷ []

-- holds the link in eSS.Disabled, or lets it go
abbrev pub go_disabled_ops : Bool → List Op
go_disabled_ops on = modify n.link_ctrl 0 (n.link_go_disabled ≔ bit on) [] ∷ []

abbrev pub go_rx_det_ops : List Op
go_rx_det_ops = modify n.link_ctrl 0 (n.link_go_rx_det ≔ 1) [] ∷ []

-- leaves U1, U2 or U3
abbrev pub ux_exit_ops : List Op
ux_exit_ops = modify n.link_ctrl 0 (n.link_tx_ux_exit ≔ 1) [] ∷ []

-- ends the handshake of a hot reset: its bit, 1, is cleared in the training sequences sent
abbrev pub hot_reset_done_ops : List Op
hot_reset_done_ops = clear_bits n.link_ctrl 0 (n.link_tx_ts_cfg ≔ 1) ∷ []

abbrev pub u2_timer_ops : ℕ → List Op
u2_timer_ops timeout = write n.link_u2_inact_timer 0 (n.u2_inactive_timer ≔ timeout) [] ∷ []

abbrev pub delay_ops : ℕ → List Op
delay_ops cycles = wait cycles ∷ []
