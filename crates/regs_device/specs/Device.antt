-- What is done to the device as a whole (reference: `shutdown` and `protocol_reset` of regs.rs).
-- Assumes nothing.
use Rattle.std.specs.Prelude.{ℕ, true, false, List, [], ◌∷◌, ◌++◌}
use Rattle.ops.specs.Numbers as n
use Rattle.ops.specs.Sequence.{up_to}
use Rattle.ops.specs.Ops.{Op, write, modify, wait, ◌≔◌}
use Rattle.regs_endpoint.specs.Endpoint.{clear_ops}
use Rattle.regs_control.specs.Control.{ep0_tx_clear_ops, ep0_rx_ready_ops, address_ops}
use Rattle.regs_link.specs.Link.{link_power_allow_ops}
use Rattle.regs_init.specs.Init.{init_ops}

-- resets the protocol and the link layer, with the link held down meanwhile
abbrev pub shutdown_ops : List Op
shutdown_ops =
    write n.usbss_ctrl 0 (n.force_rst ≔ 1) []
    ∷ modify n.link_cfg 0 (n.link_phy_reset ≔ 1) (n.link_reset ≔ 1 ∷ [])
    ∷ modify n.link_ctrl 0 (n.link_go_disabled ≔ 1) []
    ∷ wait 1000
    ∷ modify n.usbss_ctrl 0 (n.force_rst ≔ 0) []
    ∷ modify n.link_cfg 0 (n.link_phy_reset ≔ 0) (n.link_reset ≔ 0 ∷ [])
    ∷ []

-- the protocol layer starts anew, every transfer flag acknowledged, no endpoint enabled
abbrev pub protocol_ops : List Op
protocol_ops =
    modify n.usbss_ctrl 0 (n.force_rst ≔ 1) []
    ∷ write n.status 0 (n.uif_transfer ≔ 1)
    (n.udif_setup ≔ 1
    ∷ n.udif_status ≔ 1
    ∷ n.uif_rx_ping ≔ 1
    ∷ n.uif_itp ≔ 1
    ∷ n.uif_fifo_txov ≔ 1
    ∷ n.uif_fifo_rxov ≔ 1
    ∷ [])
    ∷ write n.usbss_ctrl 0 (n.uie_transfer ≔ 1) (n.udie_setup ≔ 1 ∷ n.udie_status ≔ 1 ∷ n.dma_en ≔ 1 ∷ n.setup_flow ≔ 1 ∷ [])
    ∷ modify n.usbss_ctrl 0 (n.usb_clr_all ≔ 1) []
    ∷ modify n.usbss_ctrl 0 (n.usb_clr_all ≔ 0) []
    ∷ write n.uep_tx_en 0 (n.all ≔ 0) []
    ∷ write n.uep_rx_en 0 (n.all ≔ 0) []
    ∷ []

-- both directions of an endpoint, IN first
abbrev pub clear_both : ℕ → List Op
clear_both e = clear_ops e true ++ clear_ops e false

-- endpoint 0 sends and receives in the 512 bytes at `ep0`
abbrev pub ep0_memory_ops : ℕ → List Op
ep0_memory_ops ep0 =
    write n.uep0_tx_dma 0 (n.all ≔ ep0) []
    ∷ write n.uep0_rx_dma 0 (n.all ≔ ep0) []
    ∷ write n.uep0_tx_dma_ofs 0 (n.all ≔ 0) []
    ∷ write n.uep0_rx_dma_ofs 0 (n.all ≔ 0) []
    ∷ []

-- the protocol layer, the endpoints 1 to 7 and the address; endpoint 0 is ready for a SETUP
abbrev pub protocol_reset_ops : ℕ → List Op
protocol_reset_ops ep0 =
    protocol_ops ++ (up_to clear_both 7 ++ (ep0_memory_ops ep0 ++ (ep0_tx_clear_ops ++ (ep0_rx_ready_ops ++ address_ops 0))))

-- a bus reset: protocol_reset, and no link power management
abbrev pub bus_reset_ops : ℕ → List Op
bus_reset_ops ep0 = protocol_reset_ops ep0 ++ link_power_allow_ops false

abbrev pub power_on_ops : ℕ → ℕ → List Op
power_on_ops revision ep0 = init_ops revision ++ bus_reset_ops ep0
