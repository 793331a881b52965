-- Orders keep the state sound, and the account of every data slot. Queries change nothing.
-- Assumes nothing.
use Rattle.std.specs.Prelude.{ℕ, Bool, true, false, ◌&&◌, cond, ◌≡◌, refl, Err}
use Rattle.std.proofs.Common.{sym, ◌∙◌, le-ltb}
use Rattle.base.specs.EachLaws.{and_left, and_right, true_not_false}
use Rattle.state.specs.declared.Slot.{Slot}
use Rattle.state.specs.declared.State.{State}
use Rattle.state.specs.declared.Events.{Events}
use Rattle.state.specs.Fresh.{slot_at}
use Rattle.state_slots.specs.Slots.{idleb, data_endpoint, slot_number, slot_of, configured}
use Rattle.state_slots.specs.Tally.{KeepsAccount}
use Rattle.state_laws.specs.TallyLaws.{forgotten_keeps, unmoved}
use Rattle.state_slots.specs.StoredLaws.{stored_slot}
use Rattle.state_sound.specs.Sound.{soundb, slotb}
use Rattle.state_sound.proofs.FactLaws.{SlotFacts, slot_facts, slot_sound, idled_sound, one_slot_kept}
use Rattle.state_call.specs.OutcomeLaws.{keeps}
use Rattle.state_laws.specs.SlotLaws.{slot_range}
use Rattle.bus_endpoint.specs.declared.Order.{Order}
use Rattle.bus_endpoint.specs.declared.Order.TheVariants.{Stall, Enable}
use Rattle.bus_order.specs.Order.{order_conditions, order_call}
use Rattle.bus_endpoint.specs.Endpoint.{wanted, fits, ordered_slot, made_slot}

-- an endpoint that an order reaches is configured
fits_configured : (powered : Bool) (e : ℕ) (o : Order) (x : Slot) → fits powered e o x ≡ true → configured x.config ≡ true
fits_configured powered e o x h =
    and_right powered (configured x.config) (and_right (data_endpoint e) (powered && configured x.config) (and_left (data_endpoint e && (powered && configured x.config)) (wanted o x.enabled) h))

-- the slot behind an order is sound
ordered_sound : (p : Bool) (i : ℕ) (o : Order) (x : Slot) → configured x.config ≡ true → slotb p i x ≡ true → slotb p i (ordered_slot o x) ≡ true
ordered_sound p i (Stall stalled) x c h = idled_sound p p i x x.enabled stalled _ h (λ d f q. c)
ordered_sound p i (Enable enabled) x c h = idled_sound p p i x enabled false _ h (λ d f q. c)

made_sound : (p : Bool) (i e : ℕ) (o : Order) (x : Slot) → slotb p i x ≡ true → slotb p i (made_slot p e o x) ≡ true
made_sound p i e o x h = go (fits p e o x) refl
  where
    go : (b : Bool) → fits p e o x ≡ b → slotb p i (cond b (ordered_slot o x) x) ≡ true
    go true f = ordered_sound p i o x (fits_configured p e o x f) h
    go false f = h

-- and has the old account
ordered_account : (o : Order) (x : Slot) → KeepsAccount x (ordered_slot o x)
ordered_account (Stall stalled) x = forgotten_keeps x x.enabled stalled
ordered_account (Enable enabled) x = forgotten_keeps x enabled false

made_account : (p : Bool) (e : ℕ) (o : Order) (x : Slot) → KeepsAccount x (made_slot p e o x)
made_account p e o x = go (fits p e o x)
  where
    go : (b : Bool) → KeepsAccount x (cond b (ordered_slot o x) x)
    go true = ordered_account o x
    go false = unmoved x

-- What 26 doesn't refuse, no order makes refusable.
pub order_keeps_sound : (room : ℕ) (s : State) (v : Events) (e : ℕ) (incoming : Bool) (o : Order) → soundb s v ≡ true
    → soundb (order_call room s v e incoming o).state (order_call room s v e incoming o).events ≡ true
unfolding order_call
order_keeps_sound room s v e incoming o h =
    keeps (λ t u. soundb t u ≡ true) Err (order_conditions room s v) s v _ h
    (λ n. one_slot_kept s v (slot_number e incoming) (made_slot s.powered e o (slot_of s e incoming)) h (made_sound s.powered (slot_number e incoming) e o (slot_of s e incoming)))

-- An order leaves begun as it is and counts what it cuts, on every slot.
pub order_keeps_account : (room : ℕ) (s : State) (v : Events) (e : ℕ) (incoming : Bool) (o : Order) (i : ℕ)
    → KeepsAccount (slot_at s i) (slot_at (order_call room s v e incoming o).state i)
unfolding order_call
order_keeps_account room s v e incoming o i =
    keeps (λ t u. KeepsAccount (slot_at s i) (slot_at t i)) Err (order_conditions room s v) s v _ (unmoved (slot_at s i))
    (λ n. stored_slot (λ k y. KeepsAccount (slot_at s k) y) s (slot_number e incoming) (made_slot s.powered e o (slot_of s e incoming)) (made_account s.powered e o (slot_of s e incoming)) i (unmoved (slot_at s i)))

-- An order that reaches no endpoint finds nothing in hand there.
pub unfit_idle : (s : State) (v : Events) (e : ℕ) (incoming : Bool) (o : Order) → soundb s v ≡ true → data_endpoint e ≡ true → fits s.powered e o (slot_of s e incoming) ≡ false
    → idleb (slot_of s e incoming).phase ≡ true
unfit_idle s v e incoming o h d z = go (idleb (slot_of s e incoming).phase) refl
  where
    f : SlotFacts s.powered (slot_number e incoming) (slot_of s e incoming)
    f = let r = slot_range e incoming d in slot_facts s.powered (slot_number e incoming) (slot_of s e incoming) (le-ltb (slot_number e incoming) 2 r.0) (slot_sound s v h (slot_number e incoming) r.1)

    reaches : (p : Order) → (slot_of s e incoming).enabled ≡ true → wanted p (slot_of s e incoming).enabled ≡ true
    reaches (Stall stalled) on = on
    reaches (Enable enabled) on = refl

    go : (b : Bool) → idleb (slot_of s e incoming).phase ≡ b → b ≡ true
    go true q = refl
    go false q =
        let r = f.ready q in
        let all : fits s.powered e o (slot_of s e incoming) ≡ true = rw (d, r.on, f.known r.enabled, reaches o r.enabled) in
        absurd (true_not_false (sym all ∙ z))
