-- The link layer and the PHY from reset on (reference: regs.rs).
-- Assumes nothing.
use Rattle.std.specs.Prelude.{ℕ, leb, List, [], ◌∷◌, ◌++◌}
use Rattle.ops.specs.Numbers as n
use Rattle.ops.specs.Ops.{Op, write, modify, ◌≔◌}
use Rattle.base.specs.Bits.{bit}
use Rattle.regs_link.specs.Link.{phy_write_ops}

-- a write that the reference manual doesn't name
abbrev pub phy_unnamed_ops : List Op
phy_unnamed_ops = write n.unnamed_5003c018 0 (n.all ≔ 0xB005_4000) [] ∷ []

-- the values of the maker's examples
abbrev pub phy_tuning_ops : List Op
phy_tuning_ops =
    phy_write_ops 0x03 0x7c12
    ++ (phy_write_ops 0x0d 0x79aa
    ++ (phy_write_ops 0x15 0x4430
    ++ (phy_write_ops 0x13 0x0010
    ++ (phy_write_ops 0x11 0x0501
    ++ phy_unnamed_ops))))

-- the link layer comes up as a device's; silicon from revision 3 on reports Set Link Function by a flag of its own
abbrev pub link_up_ops : ℕ → List Op
link_up_ops revision =
    write n.link_cfg 0 (n.link_rx_eq_en ≔ 1) (n.link_tx_deemph ≔ n.db3_5 ∷ n.link_phy_reset ≔ 1 ∷ [])
    ∷ write n.link_ctrl 0 (n.link_pd_mode ≔ n.p2) (n.link_go_disabled ≔ 1 ∷ [])
    ∷ write n.link_cfg 0 (n.link_rx_eq_en ≔ 1) (n.link_tx_deemph ≔ n.db3_5 ∷ n.link_ltssm_mode ≔ 1 ∷ n.link_tout_mode ≔ 1 ∷ [])
    ∷ modify n.link_lpm_cr 0 (n.lpm_en ≔ 1) []
    ∷ modify n.link_cfg 0 (n.link_rx_term_en ≔ 1) []
    ∷ write n.link_int_ctrl 0 (n.link_ie_tx_lmp ≔ 1)
    (n.link_ie_rx_lmp ≔ 1
    ∷ n.link_ie_rx_lmp_tout ≔ 1
    ∷ n.link_ie_state_chg ≔ 1
    ∷ n.link_ie_warm_rst ≔ 1
    ∷ n.link_ie_term_pres ≔ 1
    ∷ n.link_ie_rx_set_fc ≔ bit (leb 3 revision)
    ∷ [])
    ∷ write n.link_ctrl 0 (n.link_pd_mode ≔ n.p2) []
    ∷ write n.link_u1_wkup_tmr 0 (n.u1_wkup_tmr ≔ 120) []
    ∷ write n.link_u1_wkup_filter 0 (n.u1_wkup_filter ≔ 50) []
    ∷ write n.link_u2_wkup_filter 0 (n.u2_wkup_filter ≔ 0) []
    ∷ write n.link_u3_wkup_filter 0 (n.u3_wkup_filter ≔ 0) []
    ∷ []

abbrev pub init_ops : ℕ → List Op
init_ops revision = link_up_ops revision ++ phy_tuning_ops
