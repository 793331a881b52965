-- The host woken (reference: `remote_wakeup` of device.rs).
-- Assumes nothing.
use Rattle.std.specs.Prelude.{ℕ, Bool, not, ◌&&◌, List, [], ◌∷◌, Err, Result, Ok}
use Rattle.state.specs.declared.State.{State}
use Rattle.state.specs.declared.Events.{Events}
use Rattle.state.specs.declared.Refusal.{Refusal}
use Rattle.state.specs.declared.Refusal.TheVariants.{NotSuspended}
use Rattle.state.specs.Refusals.{Condition, ◌if◌, first_refusal}
use Rattle.state_slots.specs.Waking.{no_wakes}
use Rattle.state_call.specs.Turn.{admitted}
use Rattle.state_call.specs.Outcome.{Outcome, unless}
use Rattle.regs_link.specs.Link.{ux_exit_ops}

-- 25: only a host that has suspended a device that is on can be woken
abbrev pub wakeup_own : Bool → Bool → List Condition
wakeup_own powered suspended = NotSuspended if not (powered && suspended) ∷ []

abbrev pub wakeup_conditions : ℕ → State → Events → List Condition
wakeup_conditions room s v = admitted room s v (wakeup_own s.powered s.suspended)

-- the link is told to leave low power; that it has, an interrupt tells later
unfoldable pub wakeup_call : ℕ → State → Events → Outcome (Result Unit Refusal)
wakeup_call room s v =
    unless Err (first_refusal (wakeup_conditions room s v)) s v
    (record { answer = Ok tt; state = s; events = v; ops = ux_exit_ops; wakes = no_wakes; copied = [] })
