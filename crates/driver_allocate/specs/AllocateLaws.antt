-- Allocating: numbers, ways out, and what an accepted request has.
-- Assumes nothing.
use Rattle.std.specs.Prelude.{Bool, ◌≡◌, refl, Ok, Err}
use Rattle.std.proofs.Common.{arith, ltb-false}
use Rattle.std.proofs.lemmas.Bool.{not-false, eqb-false}
use Rattle.state.specs.declared.EndpointRequest.{EndpointRequest}
use Rattle.state.specs.declared.Driver.{Driver}
use Rattle.state.specs.declared.Refusal.{Refusal}
use Rattle.state.specs.Refusals.{Check}
use Rattle.state.specs.Refusals.{Bound}
use Rattle.state.specs.RefusalsLaws.{bound, none_due, not_due}
use Rattle.state_call.specs.Outcome.{or_else}
use Rattle.state_sound.proofs.FactLaws.{driver_facts}
use Rattle.driver_allocate.specs.Allocate.{allocate_conditions, allocate_check, placed, allocate_at, allocate_result, allocate_numbers, numbers_for, AcceptedRequest, Placeable}

-- the answer's numbers are those of its refusal, or of its endpoint
pub allocate_numbers_lem : (d : Driver) (incoming : Bool) (r : EndpointRequest)
    → allocate_numbers (allocate_result d incoming r).answer ≡ numbers_for (allocate_check d incoming r) d incoming r
unfolding allocate_result placed or_else
allocate_numbers_lem d incoming r = go (allocate_check d incoming r)
  where
    go : (c : Check) → allocate_numbers (allocate_at c d incoming r).answer ≡ numbers_for c d incoming r
    go (Ok tt) = refl
    go (Err q) = refl

pub accepted_request : (d : Driver) (incoming : Bool) (r : EndpointRequest) → allocate_check d incoming r ≡ Ok tt → AcceptedRequest d incoming r
unfolding allocate_check
accepted_request d incoming r h =
    let n1 = not_due (none_due (allocate_conditions d incoming r) h) in
    let n2 = not_due n1.1 in
    let n3 = not_due n2.1 in
    let n4 = not_due n3.1 in
    let n5 = not_due n4.1 in
    let n6 = not_due n5.1 in
    record {
      driver = driver_facts d (not-false _ n1.0);
      size = not-false _ n2.0;
      burst = not-false _ n3.0;
      direction = not-false _ n4.0;
      found = eqb-false _ _ n5.0;
      room = ltb-false _ _ n6.0;
    }

pub placeable : (d : Driver) (incoming : Bool) (r : EndpointRequest) → allocate_check d incoming r ≡ Ok tt → Placeable d incoming r
placeable d incoming r h =
    let a = accepted_request d incoming r h in
    record { memory = omega (arith, a.room, a.driver.ram.high) }

-- Each refusal is given exactly where it is the first that is due, and none where none is.
pub allocate_bound : (d : Driver) (incoming : Bool) (r : EndpointRequest) → Bound (allocate_conditions d incoming r) (allocate_check d incoming r)
unfolding allocate_check
allocate_bound d incoming r = bound (allocate_conditions d incoming r)

-- A refused request leaves the driver as it was.
pub refused_request : (d : Driver) (incoming : Bool) (r : EndpointRequest) (q : Refusal) → allocate_check d incoming r ≡ Err q → (allocate_result d incoming r).driver ≡ d
unfolding allocate_result or_else
refused_request d incoming r q e = rw e
