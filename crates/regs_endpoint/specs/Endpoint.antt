-- What is done to the registers of a data endpoint, 1 to 7 (reference: regs.rs, and `queue` of device.rs).
-- Assumes nothing.
use Rattle.std.specs.Prelude.{ℕ, Bool, true, false, cond, List, [], ◌∷◌, ◌++◌}
use Rattle.ops.specs.Numbers as n
use Rattle.ops.specs.Ops.{Op, write, modify, modify_if_differs, ◌≔◌}
use Rattle.base.specs.Bits.{bit}
use Rattle.regs_endpoint.specs.declared.Bank.{Bank}

-- IN works on the registers `tx`, OUT on `rx`
abbrev pub bank_of : Bool → Bank
bank_of true =
    record {
      cfg = n.tx_cfg;
      cr = n.tx_cr;
      st = n.tx_st;
      chain_st = n.tx_chain_st;
      en = n.uep_tx_en;
      ep_en = n.ep_tx_en;
    }
bank_of false =
    record {
      cfg = n.rx_cfg;
      cr = n.rx_cr;
      st = n.rx_st;
      chain_st = n.rx_chain_st;
      en = n.uep_rx_en;
      ep_en = n.ep_rx_en;
    }

-- a clean endpoint: no chain, not halted, sequence and window at their start
abbrev pub clear_ops : ℕ → Bool → List Op
clear_ops e incoming =
    write (bank_of incoming).cr e (n.clr ≔ 1) (n.chain_clr ≔ 1 ∷ [])
    ∷ write (bank_of incoming).st e (n.int_flag ≔ 1) []
    ∷ write (bank_of incoming).chain_st e (n.chain_if ≔ 1) []
    ∷ []

-- the controller runs chains, ERDY and sequence numbers by itself
abbrev pub cfg_ops : ℕ → Bool → Bool → List Op
cfg_ops e incoming iso =
    write (bank_of incoming).cfg e (n.chain_auto ≔ 1) (n.erdy_auto ≔ 1 ∷ n.seq_auto ≔ 1 ∷ n.iso_mode ≔ bit iso ∷ [])
    ∷ []

abbrev pub configure_ops : ℕ → Bool → Bool → List Op
configure_ops e incoming iso = cfg_ops e incoming iso ++ clear_ops e incoming

-- stops the chain and keeps the sequence number
abbrev pub abort_ops : ℕ → Bool → List Op
abort_ops e incoming =
    modify (bank_of incoming).cr e (n.chain_clr ≔ 1) []
    ∷ write (bank_of incoming).chain_st e (n.chain_if ≔ 1) []
    ∷ write (bank_of incoming).st e (n.erdy_req ≔ 1) []
    ∷ []

-- where there is a chain
abbrev pub abort_busy_ops : ℕ → Bool → Bool → List Op
abort_busy_ops e incoming busy = cond busy (abort_ops e incoming) []

-- the window of an OUT endpoint, written only where it changes
abbrev pub window_ops : ℕ → ℕ → List Op
window_ops e nump = modify_if_differs n.rx_cr e (n.erdy_nump ≔ nump) ∷ []

-- answers STALL, and has the host look
abbrev pub halt_ops : ℕ → Bool → List Op
halt_ops e incoming =
    modify (bank_of incoming).cr e (n.halt ≔ 1) [] ∷ write (bank_of incoming).st e (n.erdy_req ≔ 1) [] ∷ []

-- the endpoint's own bit; the record's index says which
abbrev pub enable_ops : ℕ → Bool → Bool → List Op
enable_ops e incoming enabled = modify (bank_of incoming).en e ((bank_of incoming).ep_en ≔ bit enabled) [] ∷ []

-- hands a chain over that sends packets from `dma`, the last one of `last` bytes
abbrev pub chain_in_ops : ℕ → ℕ → ℕ → ℕ → ℕ → List Op
chain_in_ops e dma m last packets =
    write n.tx_dma e (n.all ≔ dma) []
    ∷ write n.tx_dma_ofs e (n.all ≔ m) []
    ∷ write n.tx_chain_len e (n.len ≔ last) []
    ∷ write n.tx_chain_exp_nump e (n.all ≔ packets) []
    ∷ write n.tx_chain_st e (n.chain_if ≔ 1) []
    ∷ []

-- hands a chain over that receives at most that many packets, from `dma` on
abbrev pub chain_out_ops : ℕ → ℕ → ℕ → ℕ → List Op
chain_out_ops e dma m packets =
    write n.rx_dma e (n.all ≔ dma) []
    ∷ write n.rx_dma_ofs e (n.all ≔ m) []
    ∷ write n.rx_chain_max_nump e (n.all ≔ packets) []
    ∷ write n.rx_chain_st e (n.chain_if ≔ 1) []
    ∷ []

-- acknowledges the end of a chain
abbrev pub chain_ack_ops : ℕ → Bool → List Op
chain_ack_ops e incoming = write (bank_of incoming).chain_st e (n.chain_if ≔ 1) [] ∷ []
