-- The names of registers and enumerated values, as the Rust has them, and the bytes of a number's name.
-- Assumes nothing.
use Rattle.std.specs.Prelude.{ℕ, List, [], ◌∷◌}
use Prim.Native.String.{String}
use Rattle.ops.specs.Numbers as number
use Rattle.tool_rows.specs.Bytes.{bytes, name_of}

-- registers
abbrev pub register_names : List (ℕ × String)
register_names =
    (number.register_number number.link_cfg, "link_cfg") ∷
    (number.register_number number.link_ctrl, "link_ctrl") ∷
    (number.register_number number.link_int_ctrl, "link_int_ctrl") ∷
    (number.register_number number.link_int_flag, "link_int_flag") ∷
    (number.register_number number.link_lpm_cr, "link_lpm_cr") ∷
    (number.register_number number.link_u1_wkup_tmr, "link_u1_wkup_tmr") ∷
    (number.register_number number.link_u1_wkup_filter, "link_u1_wkup_filter") ∷
    (number.register_number number.link_u2_wkup_filter, "link_u2_wkup_filter") ∷
    (number.register_number number.link_u3_wkup_filter, "link_u3_wkup_filter") ∷
    (number.register_number number.link_u2_inact_timer, "link_u2_inact_timer") ∷
    (number.register_number number.link_lmp_tx_data, "link_lmp_tx_data") ∷
    (number.register_number number.link_lmp_port_cap, "link_lmp_port_cap") ∷
    (number.register_number number.phy_cfg_cr, "phy_cfg_cr") ∷
    (number.register_number number.phy_cfg_dat, "phy_cfg_dat") ∷
    (number.register_number number.unnamed_5003c018, "0x5003C018") ∷
    (number.register_number number.usbss_ctrl, "usbss_ctrl") ∷
    (number.register_number number.status, "status") ∷
    (number.register_number number.uep_tx_en, "uep_tx_en") ∷
    (number.register_number number.uep_rx_en, "uep_rx_en") ∷
    (number.register_number number.uep0_tx_dma, "uep0_tx_dma") ∷
    (number.register_number number.uep0_rx_dma, "uep0_rx_dma") ∷
    (number.register_number number.uep0_tx_dma_ofs, "uep0_tx_dma_ofs") ∷
    (number.register_number number.uep0_rx_dma_ofs, "uep0_rx_dma_ofs") ∷
    (number.register_number number.uep0_tx_ctrl, "uep0_tx_ctrl") ∷
    (number.register_number number.uep0_rx_ctrl, "uep0_rx_ctrl") ∷
    (number.register_number number.tx_cfg, "tx.cfg") ∷
    (number.register_number number.tx_cr, "tx.cr") ∷
    (number.register_number number.tx_st, "tx.st") ∷
    (number.register_number number.tx_chain_st, "tx.chain_st") ∷
    (number.register_number number.tx_dma, "tx.dma") ∷
    (number.register_number number.tx_dma_ofs, "tx.dma_ofs") ∷
    (number.register_number number.tx_chain_len, "tx.chain_len") ∷
    (number.register_number number.tx_chain_exp_nump, "tx.chain_exp_nump") ∷
    (number.register_number number.rx_cfg, "rx.cfg") ∷
    (number.register_number number.rx_cr, "rx.cr") ∷
    (number.register_number number.rx_st, "rx.st") ∷
    (number.register_number number.rx_chain_st, "rx.chain_st") ∷
    (number.register_number number.rx_dma, "rx.dma") ∷
    (number.register_number number.rx_dma_ofs, "rx.dma_ofs") ∷
    (number.register_number number.rx_chain_max_nump, "rx.chain_max_nump") ∷
    (number.register_number number.delay, "delay") ∷
    []

-- enumerated values
abbrev pub value_names : List (ℕ × String)
value_names =
    (number.ack, "ACK") ∷
    (number.dph, "DPH") ∷
    (number.nrdy, "NRDY") ∷
    (number.stall, "STALL") ∷
    (number.p2, "P2") ∷
    (number.db3_5, "DB3_5") ∷
    []

-- the bytes of the name of a register and of an enumerated value
unfoldable pub register_name : ℕ → List ℕ
register_name n = bytes (name_of n register_names)

unfoldable pub value_name : ℕ → List ℕ
value_name n = bytes (name_of n value_names)
