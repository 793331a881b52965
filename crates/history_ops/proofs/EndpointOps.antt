-- What is done to the registers of a data endpoint: only a chain handed over is recorded, and nothing concerns the address.
-- Assumes nothing.
use Rattle.std.specs.Prelude.{ℕ, Bool, true, false, ◌&&◌, cond, List, [], ◌∷◌, eqb, ◌≡◌, refl, Some}
use Rattle.ops.specs.Ops.{Op}
use Rattle.regs_endpoint.specs.Endpoint.{clear_ops, cfg_ops, configure_ops, abort_ops, abort_busy_ops, window_ops, halt_ops, enable_ops, chain_in_ops, chain_out_ops, chain_ack_ops}
use Rattle.state.specs.declared.Slot.{Slot}
use Rattle.transfer_chain.specs.declared.Chain.{Chain}
use Rattle.transfer_chain.specs.Chains.{chain_ops, next_chain, queue_ops}
use Rattle.state_slots.specs.Slots.{slot_size}
use Rattle.history_ops.specs.Recorded.{none, given_by, given, recorded, noted, same_way, same_slot, handed}
use Rattle.history_ops.specs.Held.{Keeps}
use Rattle.history_ops.specs.Touched.{touches, both_registers, Quiet}
use Rattle.history_ops.proofs.TouchedLaws.{keeps_untouched, quiet_untouched, quiet_none, quiet_append, quiet_cond}

-- operations by the direction, each of them computed
by_direction : (ops : Bool → List Op) → touches both_registers (ops true) ≡ false → touches both_registers (ops false) ≡ false → (incoming : Bool) → Quiet (ops incoming)
by_direction ops h k true = quiet_untouched (ops true) h
by_direction ops h k false = quiet_untouched (ops false) k

pub clear_quiet : (e : ℕ) (incoming : Bool) → Quiet (clear_ops e incoming)
unfolding touches
clear_quiet e = by_direction (clear_ops e) refl refl

pub cfg_quiet : (e : ℕ) (incoming iso : Bool) → Quiet (cfg_ops e incoming iso)
unfolding touches
cfg_quiet e incoming iso = by_direction (λ d. cfg_ops e d iso) refl refl incoming

pub configure_quiet : (e : ℕ) (incoming iso : Bool) → Quiet (configure_ops e incoming iso)
configure_quiet e incoming iso = quiet_append (cfg_ops e incoming iso) (clear_ops e incoming) (cfg_quiet e incoming iso) (clear_quiet e incoming)

pub abort_quiet : (e : ℕ) (incoming : Bool) → Quiet (abort_ops e incoming)
unfolding touches
abort_quiet e = by_direction (abort_ops e) refl refl

pub abort_busy_quiet : (e : ℕ) (incoming busy : Bool) → Quiet (abort_busy_ops e incoming busy)
abort_busy_quiet e incoming busy = quiet_cond busy (abort_ops e incoming) [] (abort_quiet e incoming) quiet_none

pub window_quiet : (e window : ℕ) → Quiet (window_ops e window)
unfolding touches
window_quiet e window = quiet_untouched (window_ops e window) refl

pub halt_quiet : (e : ℕ) (incoming : Bool) → Quiet (halt_ops e incoming)
unfolding touches
halt_quiet e = by_direction (halt_ops e) refl refl

pub enable_quiet : (e : ℕ) (incoming enabled : Bool) → Quiet (enable_ops e incoming enabled)
unfolding touches
enable_quiet e incoming enabled = by_direction (λ d. enable_ops e d enabled) refl refl incoming

pub chain_ack_quiet : (e : ℕ) (incoming : Bool) → Quiet (chain_ack_ops e incoming)
unfolding touches
chain_ack_quiet e = by_direction (chain_ack_ops e) refl refl

-- A chain handed over is recorded of its own endpoint and direction, once, and of no other;
pub chain_recorded : (i m : ℕ) (way : Bool) (k : Chain) (incoming : Bool) (e : ℕ) → recorded incoming e (chain_ops i m way k) ≡ handed i way (Some k) incoming e
unfolding recorded given given_by noted
chain_recorded i m way k incoming e = go way incoming (eqb i e) refl
  where
    go : (w d c : Bool) → eqb i e ≡ c → recorded d e (chain_ops i m w k) ≡ cond (c && same_way w d) (noted w k) none
    go true true true h = rw h
    go true true false h = rw h
    go true false true h = refl
    go true false false h = refl
    go false true true h = refl
    go false true false h = refl
    go false false true h = rw h
    go false false false h = rw h

-- the address stays.
pub chain_keeps : (i m : ℕ) (way : Bool) (k : Chain) → Keeps (chain_ops i m way k)
unfolding touches
chain_keeps i m true k = keeps_untouched (chain_ops i m true k) refl
chain_keeps i m false k = keeps_untouched (chain_ops i m false k) refl

-- the same by its parts
pub chain_in_recorded : (i dma m last packets : ℕ) (incoming : Bool) (e : ℕ)
    → recorded incoming e (chain_in_ops i dma m last packets)
    ≡ cond (same_slot i true e incoming) (record { dma = dma ∷ []; packets = packets ∷ []; last = last ∷ [] }) none
unfolding noted
chain_in_recorded i dma m last packets = chain_recorded i m true (record { dma = dma; packets = packets; bytes = 0; last = last; progress = 0 })

pub chain_out_recorded : (i dma m packets : ℕ) (incoming : Bool) (e : ℕ)
    → recorded incoming e (chain_out_ops i dma m packets) ≡ cond (same_slot i false e incoming) (record { dma = dma ∷ []; packets = packets ∷ []; last = [] }) none
unfolding noted
chain_out_recorded i dma m packets = chain_recorded i m false (record { dma = dma; packets = packets; bytes = 0; last = 0; progress = 0 })

-- and of a slot's next one
pub queue_recorded : (limit i : ℕ) (way : Bool) (x : Slot) (incoming : Bool) (e : ℕ)
    → recorded incoming e (queue_ops limit i way x) ≡ handed i way (Some (next_chain limit way x)) incoming e
queue_recorded limit i way x = chain_recorded i (slot_size x) way (next_chain limit way x)

pub queue_keeps : (limit i : ℕ) (way : Bool) (x : Slot) → Keeps (queue_ops limit i way x)
queue_keeps limit i way x = chain_keeps i (slot_size x) way (next_chain limit way x)
