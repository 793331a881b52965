-- What abandon and the orders do to one direction of a data endpoint.
-- Assumes nothing.
use Rattle.std.specs.Prelude.{ℕ, Bool, true, false, cond, List, ◌≡◌, refl}
use Rattle.std.proofs.Common.{sym}
use Rattle.base.specs.EachLaws.{true_not_false}
use Rattle.state.specs.declared.State.{State}
use Rattle.state.specs.declared.Events.{Events}
use Rattle.state.specs.declared.EndpointAddress.{EndpointAddress}
use Rattle.state.specs.declared.Phase.{Phase}
use Rattle.state.specs.declared.Phase.TheVariants.{Idle, Busy, Done}
use Rattle.state.specs.declared.Slot.{Slot}
use Rattle.state.specs.Refusals.{first_refusal}
use Rattle.state.specs.Setters.{with_slot}
use Rattle.state_slots.specs.Slots.{idleb, busyb, data_endpoint, slot_number, slot_of}
use Rattle.state_sound.specs.Sound.{soundb}
use Rattle.state_laws.specs.SlotLaws.{Cut, forgotten_cut, stored_cut}
use Rattle.regs_endpoint.specs.Endpoint.{abort_busy_ops}
use Rattle.transfer_abandon.specs.Abandon.{abandon_conditions, abandoned_slot, abandon_call}
use Rattle.bus_endpoint.specs.declared.Order.{Order}
use Rattle.bus_endpoint.specs.declared.Order.TheVariants.{Stall, Enable}
use Rattle.bus_endpoint.specs.Endpoint.{fits, ordered_slot, made_slot, made_ops}
use Rattle.bus_order.specs.Order.{order_conditions, order_call}
use Rattle.bus_laws.specs.OrderKeeps.{unfit_idle}
use Rattle.history_ops.specs.Touched.{Quiet}
use Rattle.history_ops.proofs.EndpointOps.{abort_busy_quiet}
use Rattle.history_ops.proofs.BusOps.{made_quiet}
use Rattle.ops.specs.Ops.{Op}
use Rattle.usbss.specs.Call.{World, Abandon, Ordered}
use Rattle.usbss.specs.Step.{step}
use Rattle.history_effect.specs.Seen.{Cuts, seen}
use Rattle.history_rows.specs.Memory.{Sound}
use Rattle.history_effect.specs.Effect.{EffectAs, Effect}
use Rattle.history_effect.proofs.SlotCases.{stored_other, At, Others, call_effect}

-- a cut slot stored, with operations that record no chain
module _ (s : State) (i : ℕ) (way : Bool) (y : Slot) (ops : List Op) (q : Quiet ops) where
  cut_here : Cut (slot_of s i way) y → At s (with_slot s (slot_number i way) y) ops Cuts i way
  unfolding EffectAs
  cut_here c = record { silent = q.silent way i; cut = stored_cut s (slot_number i way) y c }

  cut_there : Others s (with_slot s (slot_number i way) y) ops i way
  cut_there e incoming h = record { silent = q.silent incoming e; same = stored_other s i way y e incoming h }

-- ---- abandon

pub effect_abandon : (w : World) → Sound w → (e : ℕ) (incoming : Bool) → data_endpoint e ≡ true → (room : ℕ) (at : EndpointAddress) → Effect e incoming w (Abandon room at)
unfolding seen step abandon_call
effect_abandon w h e incoming d room at =
    let x = slot_of w.state at.index at.incoming in
    let y = abandoned_slot x in
    let ops = abort_busy_ops at.index at.incoming (busyb x.phase) in
    let q = abort_busy_quiet at.index at.incoming (busyb x.phase) in
    call_effect (first_refusal (abandon_conditions room w.state w.events at.index)) w.state w.events _ Cuts at.index at.incoming
    (λ z k. cut_here w.state at.index at.incoming y ops q (forgotten_cut x x.enabled x.stalled)) (cut_there w.state at.index at.incoming y ops q) e incoming d

-- ---- orders

ordered_cut : (o : Order) (x : Slot) → Cut x (ordered_slot o x)
ordered_cut (Stall stalled) x = forgotten_cut x x.enabled stalled
ordered_cut (Enable enabled) x = forgotten_cut x enabled false

-- a slot without a transfer is cut as it is
idle_cut : (x : Slot) → idleb x.phase ≡ true → Cut x x
idle_cut x h = record { idle = is_idle x.phase h; tally = rw h refl }
  where
    is_idle : (p : Phase) → idleb p ≡ true → p ≡ Idle
    is_idle Idle k = refl
    is_idle Busy k = absurd (true_not_false (sym k))
    is_idle Done k = absurd (true_not_false (sym k))

-- An order that doesn't reach its endpoint finds nothing in hand there.
made_cut : (s : State) (v : Events) (i : ℕ) (way : Bool) (o : Order) → soundb s v ≡ true → data_endpoint i ≡ true
    → Cut (slot_of s i way) (made_slot s.powered i o (slot_of s i way))
made_cut s v i way o h d = go (fits s.powered i o (slot_of s i way)) refl
  where
    go : (b : Bool) → fits s.powered i o (slot_of s i way) ≡ b → Cut (slot_of s i way) (cond b (ordered_slot o (slot_of s i way)) (slot_of s i way))
    go true q = ordered_cut o (slot_of s i way)
    go false q = idle_cut (slot_of s i way) (unfit_idle s v i way o h d q)

pub effect_ordered : (w : World) → Sound w → (e : ℕ) (incoming : Bool) → data_endpoint e ≡ true → (room : ℕ) (at : EndpointAddress) (o : Order)
    → Effect e incoming w (Ordered room at o)
unfolding seen step order_call
effect_ordered w h e incoming d room at o =
    let x = slot_of w.state at.index at.incoming in
    let y = made_slot w.state.powered at.index o x in
    let ops = made_ops w.state.powered at.index at.incoming o x in
    let q = made_quiet w.state.powered at.index at.incoming o x in
    call_effect (first_refusal (order_conditions room w.state w.events)) w.state w.events _ Cuts at.index at.incoming
    (λ z k. cut_here w.state at.index at.incoming y ops q (made_cut w.state w.events at.index at.incoming o h k))
    (cut_there w.state at.index at.incoming y ops q) e incoming d
