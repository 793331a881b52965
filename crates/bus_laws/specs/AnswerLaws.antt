-- The number of an order's answer.
-- Assumes nothing.
use Rattle.std.specs.Prelude.{ℕ, ◌≡◌, refl, Bool, Ok, Err}
use Rattle.std.proofs.Common.{ap, ◌∙◌}
use Rattle.state.specs.declared.State.{State}
use Rattle.state.specs.declared.Events.{Events}
use Rattle.state.specs.Numbers.{check_number}
use Rattle.state.specs.Refusals.{Check, first_refusal}
use Rattle.state_call.specs.Outcome.{or_else}
use Rattle.state_call.specs.OutcomeLaws.{call_answer}
use Rattle.bus_endpoint.specs.declared.Order.{Order}
use Rattle.bus_order.specs.Order.{order_conditions, order_call}

-- an order that is made has the number 0, and one that is refused the refusal's
pub order_number_lem : (c : Check) → check_number {A = Unit {0}} (or_else c Err (Ok tt)) ≡ check_number c
unfolding or_else
order_number_lem (Ok tt) = refl
order_number_lem (Err r) = refl

pub order_numbered : (room : ℕ) (s : State) (v : Events) (e : ℕ) (incoming : Bool) (o : Order)
    → check_number (order_call room s v e incoming o).answer ≡ check_number (first_refusal (order_conditions room s v))
unfolding order_call
order_numbered room s v e incoming o =
    let c = first_refusal (order_conditions room s v) in
    ap check_number (call_answer Err c s v _) ∙ order_number_lem c
