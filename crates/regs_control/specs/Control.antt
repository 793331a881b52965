-- What is done to the registers of endpoint 0 and to the transfer flags (reference: regs.rs, `transfer_irq` and `ep0_irq`
-- of device.rs).
-- Assumes nothing.
use Rattle.std.specs.Prelude.{ℕ, Bool, List, [], ◌∷◌}
use Rattle.ops.specs.declared.numbers.Field.{Field}
use Rattle.ops.specs.Numbers as n
use Rattle.ops.specs.Ops.{Op, write, modify, ◌≔◌}
use Rattle.base.specs.Bits.{bit}

-- takes the next packet
abbrev pub ep0_rx_ready_ops : List Op
ep0_rx_ready_ops = write n.uep0_rx_ctrl 0 (n.ep0_rx_res ≔ n.ack) (n.ep0_rx_erdy ≔ 1 ∷ []) ∷ []

-- sends a packet of `len` bytes under the sequence number `seq`
abbrev pub ep0_tx_ready_ops : ℕ → ℕ → List Op
ep0_tx_ready_ops seq len =
    write n.uep0_tx_ctrl 0 (n.ep0_tx_res ≔ n.dph) (n.ep0_tx_seq ≔ seq ∷ n.ep0_tx_len ≔ len ∷ [])
    ∷ modify n.uep0_tx_ctrl 0 (n.ep0_tx_erdy ≔ 1) []
    ∷ []

-- answers STALL in both directions, until the next SETUP
abbrev pub ep0_stall_ops : List Op
ep0_stall_ops =
    write n.uep0_tx_ctrl 0 (n.ep0_tx_res ≔ n.stall) []
    ∷ write n.uep0_rx_ctrl 0 (n.ep0_rx_res ≔ n.stall) (n.ep0_rx_erdy ≔ 1 ∷ [])
    ∷ []

-- the whole control register of a direction is 0
abbrev pub ep0_tx_clear_ops : List Op
ep0_tx_clear_ops = write n.uep0_tx_ctrl 0 (n.all ≔ 0) [] ∷ []

abbrev pub ep0_rx_clear_ops : List Op
ep0_rx_clear_ops = write n.uep0_rx_ctrl 0 (n.all ≔ 0) [] ∷ []

-- what a direction answers from now on
abbrev pub ep0_tx_answer_ops : ℕ → List Op
ep0_tx_answer_ops answer = write n.uep0_tx_ctrl 0 (n.ep0_tx_res ≔ answer) [] ∷ []

abbrev pub ep0_rx_answer_ops : ℕ → List Op
ep0_rx_answer_ops answer = write n.uep0_rx_ctrl 0 (n.ep0_rx_res ≔ answer) [] ∷ []

-- acknowledges one flag of `status`: SETUP received, or the status stage ended
abbrev pub status_ack_ops : Field → List Op
status_ack_ops flag = write n.status 0 (flag ≔ 1) [] ∷ []

-- acknowledges those of the four other flags that were read as set
abbrev pub status_others_ops : Bool → Bool → Bool → Bool → List Op
status_others_ops itp ping txov rxov =
    write n.status 0 (n.uif_itp ≔ bit itp) (n.uif_rx_ping ≔ bit ping ∷ n.uif_fifo_txov ≔ bit txov ∷ n.uif_fifo_rxov ≔ bit rxov ∷ [])
    ∷ []

-- the address that the device answers to
abbrev pub address_ops : ℕ → List Op
address_ops address = modify n.usbss_ctrl 0 (n.dev_addr ≔ address) [] ∷ []
