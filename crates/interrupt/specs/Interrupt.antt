-- A reading of an interrupt, handed in (reference: `on_interrupt` of device.rs).
-- Assumes nothing.
use Rattle.std.specs.Prelude.{ℕ, false, not, cond, List, [], ◌∷◌, leb, Err, Option, Result}
use Rattle.state.specs.declared.Awaiting.{Awaiting}
use Rattle.state.specs.declared.Reading.{Reading}
use Rattle.state.specs.declared.State.{State}
use Rattle.state.specs.declared.Events.{Events}
use Rattle.state.specs.declared.Refusal.{Refusal}
use Rattle.state.specs.declared.Refusal.TheVariants.{OutOfRange}
use Rattle.state.specs.Awaiting.{awaiting_number}
use Rattle.state.specs.Numbers.{refusal_number, reading_in_range}
use Rattle.state.specs.Refusals.{Condition, ◌if◌, first_refusal}
use Rattle.state.specs.Setters.{Link, with_link}
use Rattle.state_call.specs.Turn.{reading_in}
use Rattle.state_call.specs.Outcome.{Outcome, or_else, unless}
use Rattle.bus_reset.specs.Reset.{bus_reset_state}
use Rattle.interrupt_link.specs.declared.LinkEffect.{LinkEffect}
use Rattle.interrupt_asks.specs.Turns.{Heard}
use Rattle.interrupt_asks.specs.Settled.{settled}
use Rattle.interrupt_transfer.specs.Transfers.{Turned}
use Rattle.interrupt_readings.specs.Matched.{Matched, matched_as, matchesb}
use Rattle.interrupt_readings.specs.Heard.{heard_link}
use Rattle.interrupt_followers.specs.Followers.{heard_transfer}

-- 10, 26, 24 of a reading that isn't the awaited one, 11
abbrev pub answer_conditions : ℕ → State → Events → Reading → List Condition
answer_conditions room s v r = reading_in room s v (matchesb s.awaited.next r) (OutOfRange if not (reading_in_range r) ∷ [])

abbrev pub link_before : State → Events → LinkEffect
link_before s v = record { resets = false; suspended = s.suspended; reset_seen = s.reset_seen; low_power = s.low_power; events = v }

abbrev pub link_flags_of : LinkEffect → Link
link_flags_of f = record { suspended = f.suspended; seen = f.reset_seen; low = f.low_power }

abbrev pub link_after : State → LinkEffect → State
link_after s f = with_link (cond f.resets (bus_reset_state s) s) (link_flags_of f)

abbrev pub link_settled : State → Heard LinkEffect → Outcome (Result (Option Awaiting) Refusal)
link_settled s h = settled (link_after s h.effect) h.effect.events h.awaited h.ops

abbrev pub transfer_settled : Events → Turned → Outcome (Result (Option Awaiting) Refusal)
transfer_settled v h = settled h.state v h.awaited h.ops

-- the first six readings are the link's
abbrev pub answered : State → Events → Matched → Outcome (Result (Option Awaiting) Refusal)
answered s v m =
    cond (leb (awaiting_number s.awaited.next) 6)
    (link_settled s (heard_link s.ep0_address s.revision s.awaited (link_before s v) m))
    (transfer_settled v (heard_transfer s m))

unfoldable pub answer_call : ℕ → State → Events → Reading → Outcome (Result (Option Awaiting) Refusal)
answer_call room s v r = unless Err (first_refusal (answer_conditions room s v r)) s v (answered s v (matched_as s.awaited.next r))

-- the reading that is awaited behind one
abbrev pub next_awaiting : State → Events → Matched → Option Awaiting
next_awaiting s v m =
    cond (leb (awaiting_number s.awaited.next) 6) (heard_link s.ep0_address s.revision s.awaited (link_before s v) m).awaited.next
    (heard_transfer s m).awaited.next

abbrev pub answer_says : ℕ → State → Events → Reading → List ℕ
answer_says room s v r =
    or_else (first_refusal (answer_conditions room s v r)) (λ q. refusal_number q ∷ []) (0 ∷ awaiting_number (next_awaiting s v (matched_as s.awaited.next r)) ∷ [])
