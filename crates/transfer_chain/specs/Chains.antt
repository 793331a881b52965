-- The chains of a transfer (document 01, "device.rs, transfers"). How many packets a chain may
-- have is a parameter, `limit`; M is `m`.
-- Assumes nothing.
use Rattle.std.specs.Prelude.{ℕ, ◌+◌, ◌-◌, ◌*◌, ◌%◌, ◌^◌, min, max, Bool, true, false, cond, not, ◌&&◌, ◌||◌, List, ◌==◌, nat_le, nat_lt}
use Rattle.ops.specs.Ops.{Op}
use Rattle.base.specs.Ceil.{div_ceil}
use Rattle.state.specs.declared.Transfer.{Transfer}
use Rattle.state.specs.declared.Slot.{Slot}
use Rattle.state_slots.specs.Slots.{slot_size, own_buffer, moved_slot}
use Rattle.regs_endpoint.specs.Endpoint.{chain_in_ops, chain_out_ops}
use Rattle.transfer_chain.specs.declared.Chain.{Chain}

-- packets of a chain with n bytes remaining: n / M rounded up, held to 1..limit
unfoldable pub chain_packets : ℕ → ℕ → ℕ → ℕ
chain_packets limit m n = min limit (max 1 (div_ceil n m))

-- the bytes of an IN chain
unfoldable pub chain_bytes : ℕ → ℕ → ℕ → ℕ
chain_bytes limit m n = min n (chain_packets limit m n * m)

-- the bytes of a transfer that remain
abbrev pub left : Transfer → ℕ
left t = t.length - t.progress

-- where the transfer has come to, as a 32-bit address
abbrev pub place : Transfer → ℕ
place t = (t.address + t.progress) % 2 ^ 32

-- an IN chain: every packet is full but the last. The empty packet comes from the endpoint's own buffer.
abbrev pub in_chain : ℕ → ℕ → ℕ → Transfer → Chain
in_chain limit m own t =
    record {
      dma = cond (chain_bytes limit m (left t) == 0) own (place t);
      packets = chain_packets limit m (left t);
      bytes = chain_bytes limit m (left t);
      last = chain_bytes limit m (left t) - (chain_packets limit m (left t) - 1) * m;
      progress = t.progress + chain_bytes limit m (left t);
    }

abbrev pub out_chain : ℕ → ℕ → Transfer → Chain
out_chain limit m t = record { dma = place t; packets = chain_packets limit m (left t); bytes = 0; last = 0; progress = t.progress }

-- an IN transfer is further by the chain that it handed over; an empty chain clears the flag
abbrev pub sent : Transfer → Chain → Transfer
sent t k = record t { progress = k.progress; zlp = t.zlp && not (k.bytes == 0) }

-- the bytes of an OUT report: p packets, held to 1..expected, all but the last full, and the last of n bytes, at most M
abbrev pub reported : ℕ → ℕ → ℕ → ℕ → ℕ
reported m expected p n = (min expected (max 1 p) - 1) * m + min n m

-- an OUT transfer after a report, which doesn't take it past its length. A sound one has room for all of it.
abbrev pub arrived : ℕ → ℕ → Transfer → ℕ → ℕ → Transfer
arrived limit m t p n =
    record {
      address = t.address;
      length = t.length;
      progress = t.progress + min (reported m (chain_packets limit m (left t)) p n) (left t);
      zlp = t.zlp;
    }

-- after a report, whether another chain follows: of IN while bytes or an empty packet are to be sent
abbrev pub in_goes_on : Transfer → Bool
in_goes_on t = nat_lt t.progress t.length || t.zlp

-- of OUT unless the last packet was short (n < M), while bytes are missing
abbrev pub out_goes_on : ℕ → Transfer → ℕ → Bool
out_goes_on m t n = nat_le m n && nat_lt t.progress t.length

abbrev pub slot_chain : ℕ → Slot → Chain
slot_chain limit x = in_chain limit (slot_size x) (own_buffer x).address x.transfer

-- a slot with its next chain handed over, and the operations that do it
abbrev pub queued_slot : ℕ → Bool → Slot → Slot
queued_slot limit true x = moved_slot x x.phase (sent x.transfer (slot_chain limit x))
queued_slot limit false x = x

abbrev pub chain_ops : ℕ → ℕ → Bool → Chain → List Op
chain_ops e m true k = chain_in_ops e k.dma m k.last k.packets
chain_ops e m false k = chain_out_ops e k.dma m k.packets

abbrev pub next_chain : ℕ → Bool → Slot → Chain
next_chain limit true x = slot_chain limit x
next_chain limit false x = out_chain limit (slot_size x) x.transfer

abbrev pub queue_ops : ℕ → ℕ → Bool → Slot → List Op
queue_ops limit e incoming x = chain_ops e (slot_size x) incoming (next_chain limit incoming x)
