-- Power on (reference: `power_on` of device.rs).
-- Assumes nothing.
use Rattle.std.specs.Prelude.{ℕ, true, false, cond, List, [], ◌∷◌, eqb, ltb, Err, Result, Ok}
use Rattle.state.specs.declared.State.{State}
use Rattle.state.specs.declared.Events.{Events}
use Rattle.state.specs.declared.Refusal.{Refusal}
use Rattle.state.specs.declared.Refusal.TheVariants.{OutOfRange, Disabled}
use Rattle.state.specs.Setters.{with_power, with_link}
use Rattle.state.specs.Refusals.{Condition, ◌if◌, first_refusal}
use Rattle.state_slots.specs.Waking.{wake_all}
use Rattle.state_call.specs.Turn.{admitted}
use Rattle.state_call.specs.Outcome.{Outcome, unless}
use Rattle.regs_device.specs.Device.{power_on_ops}
use Rattle.bus_reset.specs.Reset.{bus_reset_state}

-- 11 and 22: the revision has 4 bits; before the first start endpoint 0 has no memory
abbrev pub on_own : ℕ → ℕ → List Condition
on_own revision memory = OutOfRange if ltb 15 revision ∷ Disabled if eqb memory 0 ∷ []

abbrev pub on_conditions : ℕ → State → Events → ℕ → List Condition
on_conditions room s v revision = admitted room s v (on_own revision s.ep0_address)

-- the bus is reset, and none of its resets was seen yet
abbrev pub on_state : State → ℕ → State
on_state s revision =
    with_power (with_link (bus_reset_state s) (record { suspended = false; seen = false; low = false }))
    (record { memory = s.ep0_address; on = true; revision = revision })

-- the link is brought up and the bus reset; a device that is on already stays as it is. Everybody is woken.
unfoldable pub power_on_call : ℕ → State → Events → ℕ → Outcome (Result Unit Refusal)
power_on_call room s v revision =
    unless Err (first_refusal (on_conditions room s v revision)) s v
    (record {
      answer = Ok tt;
      state = cond s.powered s (on_state s revision);
      events = v;
      ops = cond s.powered [] (power_on_ops revision s.ep0_address);
      wakes = wake_all;
      copied = [];
    })
