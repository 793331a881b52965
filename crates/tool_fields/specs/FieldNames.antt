-- The names of the registers' fields, as the Rust has them, and the bytes of a number's name.
-- Assumes nothing.
use Rattle.std.specs.Prelude.{ℕ, List, [], ◌∷◌}
use Prim.Native.String.{String}
use Rattle.ops.specs.Numbers as number
use Rattle.tool_rows.specs.Bytes.{bytes, name_of}

-- `all` is the whole register
abbrev pub field_names : List (ℕ × String)
field_names =
    (number.field_number number.all, "all") ∷
    (number.field_number number.link_rx_eq_en, "link_rx_eq_en") ∷
    (number.field_number number.link_tx_deemph, "link_tx_deemph") ∷
    (number.field_number number.link_phy_reset, "link_phy_reset") ∷
    (number.field_number number.link_ltssm_mode, "link_ltssm_mode") ∷
    (number.field_number number.link_tout_mode, "link_tout_mode") ∷
    (number.field_number number.link_rx_term_en, "link_rx_term_en") ∷
    (number.field_number number.link_reset, "link_reset") ∷
    (number.field_number number.link_u1_allow, "link_u1_allow") ∷
    (number.field_number number.link_u2_allow, "link_u2_allow") ∷
    (number.field_number number.link_pd_mode, "link_pd_mode") ∷
    (number.field_number number.link_go_disabled, "link_go_disabled") ∷
    (number.field_number number.link_go_rx_det, "link_go_rx_det") ∷
    (number.field_number number.link_tx_ux_exit, "link_tx_ux_exit") ∷
    (number.field_number number.link_tx_ts_cfg, "link_tx_ts_cfg") ∷
    (number.field_number number.link_ie_tx_lmp, "link_ie_tx_lmp") ∷
    (number.field_number number.link_ie_rx_lmp, "link_ie_rx_lmp") ∷
    (number.field_number number.link_ie_rx_lmp_tout, "link_ie_rx_lmp_tout") ∷
    (number.field_number number.link_ie_state_chg, "link_ie_state_chg") ∷
    (number.field_number number.link_ie_warm_rst, "link_ie_warm_rst") ∷
    (number.field_number number.link_ie_term_pres, "link_ie_term_pres") ∷
    (number.field_number number.link_ie_rx_set_fc, "link_ie_rx_set_fc") ∷
    (number.field_number number.link_if_tx_lmp, "link_if_tx_lmp") ∷
    (number.field_number number.link_if_rx_lmp, "link_if_rx_lmp") ∷
    (number.field_number number.link_if_rx_lmp_tout, "link_if_rx_lmp_tout") ∷
    (number.field_number number.link_if_state_chg, "link_if_state_chg") ∷
    (number.field_number number.link_if_warm_rst, "link_if_warm_rst") ∷
    (number.field_number number.link_if_term_pres, "link_if_term_pres") ∷
    (number.field_number number.link_if_rx_set_fc, "link_if_rx_set_fc") ∷
    (number.field_number number.lpm_en, "lpm_en") ∷
    (number.field_number number.u1_wkup_tmr, "u1_wkup_tmr") ∷
    (number.field_number number.u1_wkup_filter, "u1_wkup_filter") ∷
    (number.field_number number.u2_wkup_filter, "u2_wkup_filter") ∷
    (number.field_number number.u3_wkup_filter, "u3_wkup_filter") ∷
    (number.field_number number.u2_inactive_timer, "u2_inactive_timer") ∷
    (number.field_number number.link_lmp_tx_cap_vld, "link_lmp_tx_cap_vld") ∷
    (number.field_number number.phy_cfg_data, "phy_cfg_data") ∷
    (number.field_number number.phy_cfg_addr, "phy_cfg_addr") ∷
    (number.field_number number.phy_cfg_write, "phy_cfg_write") ∷
    (number.field_number number.force_rst, "force_rst") ∷
    (number.field_number number.uie_transfer, "uie_transfer") ∷
    (number.field_number number.udie_setup, "udie_setup") ∷
    (number.field_number number.udie_status, "udie_status") ∷
    (number.field_number number.dma_en, "dma_en") ∷
    (number.field_number number.setup_flow, "setup_flow") ∷
    (number.field_number number.usb_clr_all, "usb_clr_all") ∷
    (number.field_number number.dev_addr, "dev_addr") ∷
    (number.field_number number.uif_transfer, "uif_transfer") ∷
    (number.field_number number.udif_setup, "udif_setup") ∷
    (number.field_number number.udif_status, "udif_status") ∷
    (number.field_number number.uif_rx_ping, "uif_rx_ping") ∷
    (number.field_number number.uif_itp, "uif_itp") ∷
    (number.field_number number.uif_fifo_txov, "uif_fifo_txov") ∷
    (number.field_number number.uif_fifo_rxov, "uif_fifo_rxov") ∷
    (number.field_number number.ep_tx_en, "ep_tx_en") ∷
    (number.field_number number.ep_rx_en, "ep_rx_en") ∷
    (number.field_number number.ep0_tx_res, "ep0_tx_res") ∷
    (number.field_number number.ep0_tx_seq, "ep0_tx_seq") ∷
    (number.field_number number.ep0_tx_len, "ep0_tx_len") ∷
    (number.field_number number.ep0_tx_erdy, "ep0_tx_erdy") ∷
    (number.field_number number.ep0_rx_res, "ep0_rx_res") ∷
    (number.field_number number.ep0_rx_erdy, "ep0_rx_erdy") ∷
    (number.field_number number.chain_auto, "chain_auto") ∷
    (number.field_number number.erdy_auto, "erdy_auto") ∷
    (number.field_number number.seq_auto, "seq_auto") ∷
    (number.field_number number.iso_mode, "iso_mode") ∷
    (number.field_number number.clr, "clr") ∷
    (number.field_number number.chain_clr, "chain_clr") ∷
    (number.field_number number.halt, "halt") ∷
    (number.field_number number.int_flag, "int_flag") ∷
    (number.field_number number.erdy_req, "erdy_req") ∷
    (number.field_number number.chain_if, "chain_if") ∷
    (number.field_number number.len, "len") ∷
    (number.field_number number.erdy_nump, "erdy_nump") ∷
    (number.field_number number.cycles, "cycles") ∷
    []

-- the bytes of the name of a field
unfoldable pub field_name : ℕ → List ℕ
field_name n = bytes (name_of n field_names)
