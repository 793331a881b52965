-- The device address over every list of calls, in any world.
-- Assumes nothing.
use Rattle.std.specs.Prelude.{ℕ, Bool, true, false, ◌&&◌, List, [], ◌∷◌, ◌≡◌, refl, Option}
use Rattle.std.proofs.Common.{subst, ◌∙◌}
use Rattle.state.specs.declared.Awaited.{Awaited}
use Rattle.interrupt_readings.specs.Matched.{Matched, other, link_flags, link_status, capability, term_status, message, warm_status, transfer_status, setup_bytes, ep0_length, ep0_sequence, chain_packets, last_length}
use Rattle.usbss.specs.Call.{World, Call}
use Rattle.usbss.specs.Step.{step}
use Rattle.history_ops.specs.Held.{held}
use Rattle.history_ops.specs.Readings.{ends_status, resets_bus}
use Rattle.history_ops.proofs.HeldLaws.{held_append, moves_held}
use Rattle.history_rows.specs.Rows.{Row, left_by, rows, final}
use Rattle.history_rows.specs.Memory.{Memory, memory_of}
use Rattle.history_memory.specs.Remembered.{behind}
use Rattle.history_memory.proofs.MemoryLaws.{memory_step}
use Rattle.history_address.specs.Address.{waits_behind, holds_behind, brings_setup, bearing, waiting, holding, all_ops, Holds}
use Rattle.history_address.proofs.WaitingLaws.{waiting_step}
use Rattle.history_address.proofs.RegisterLaws.{register_step}

-- ---- no reading is two things to the address

never : (b : Bool) → (b && false) ≡ false
never true = refl
never false = refl

pub one_thing : (revision : ℕ) (a : Awaited) (m : Matched)
    → ((resets_bus revision a m && ends_status m) ≡ false) × (((resets_bus revision a m && brings_setup m) ≡ false) × ((ends_status m && brings_setup m) ≡ false))
one_thing revision a other = (refl, (refl, refl))
one_thing revision a (link_flags f) = (refl, (refl, refl))
one_thing revision a (link_status r) = (never _, (never _, refl))
one_thing revision a (capability b) = (never _, (never _, refl))
one_thing revision a (term_status r) = (refl, (refl, refl))
one_thing revision a (message w) = (refl, (refl, refl))
one_thing revision a (warm_status r) = (never _, (never _, refl))
one_thing revision a (transfer_status t) = (refl, (refl, never _))
one_thing revision a (setup_bytes b) = (refl, (refl, refl))
one_thing revision a (ep0_length n) = (refl, (refl, refl))
one_thing revision a (ep0_sequence q) = (refl, (refl, refl))
one_thing revision a (chain_packets p) = (refl, (refl, refl))
one_thing revision a (last_length n) = (refl, (refl, refl))

-- ---- every list of calls

-- What waits at first is what the first state has waiting, and `dev_addr` holds anything.
pub every_address : (w : World) (cs : List Call) (a : ℕ) → Holds w.state.address a (memory_of w.state) (rows w cs)
unfolding Holds rows
every_address w [] a = tt
every_address w (c ∷ cs) a =
    let next = left_by (step w c) in
    let x = bearing (memory_of w.state) c (step w c).answer in
    let b = holds_behind x w.state.address a in (
      register_step w c a,
      subst (λ (m : Memory). Holds (waits_behind x w.state.address) b m (rows next cs)) (memory_step w c)
          (subst (λ (p : Option ℕ). Holds p b (memory_of next.state) (rows next cs)) (waiting_step w c) (every_address next cs b)),
    )

-- So `dev_addr` holds behind all their operations what they make of what it held before;
pub holds_all : (p : Option ℕ) (a : ℕ) (m : Memory) (rs : List Row) → Holds p a m rs → held a (all_ops rs) ≡ holding p a m rs
unfolding Holds all_ops holding held
holds_all p a m [] h = refl
holds_all p a m (r ∷ later) h =
    let x = bearing m r.call r.outcome.answer in
    held_append a r.outcome.ops (all_ops later) ∙ rw (moves_held h.0) (holds_all (waits_behind x p) (holds_behind x p a) (behind m r) later h.1)

pub register_final : (w : World) (cs : List Call) (a : ℕ) → held a (all_ops (rows w cs)) ≡ holding w.state.address a (memory_of w.state) (rows w cs)
register_final w cs a = holds_all w.state.address a (memory_of w.state) (rows w cs) (every_address w cs a)

-- and what waits behind them is what the last state has waiting.
pub waiting_final : (w : World) (cs : List Call) → waiting w.state.address (memory_of w.state) (rows w cs) ≡ (final w cs).state.address
unfolding waiting rows final
waiting_final w [] = refl
waiting_final w (c ∷ cs) =
    let next = left_by (step w c) in
    subst (λ (m : Memory). waiting (waits_behind (bearing (memory_of w.state) c (step w c).answer) w.state.address) m (rows next cs) ≡ (final next cs).state.address)
    (memory_step w c)
    (subst (λ (p : Option ℕ). waiting p (memory_of next.state) (rows next cs) ≡ (final next cs).state.address) (waiting_step w c) (waiting_final next cs))
