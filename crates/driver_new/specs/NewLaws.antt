-- Making a driver: its numbers, and where it can be made.
-- Assumes nothing.
use Rattle.std.specs.Prelude.{ℕ, ◌^◌, ◌<◌, true, ◌≡◌, refl, Ok, Err}
use Rattle.std.proofs.Common.{arith}
use Rattle.std.proofs.lemmas.Bool.{not-false}
use Rattle.state.specs.Numbers.{check_number}
use Rattle.state.specs.Refusals.{Check, Bound}
use Rattle.state.specs.RefusalsLaws.{bound, none_due, not_due}
use Rattle.state_sound.specs.Clauses.{in_ram}
use Rattle.state_sound.proofs.FactLaws.{in_ram_lem}
use Rattle.state_call.specs.Outcome.{or_else}
use Rattle.driver_new.specs.New.{up4, new_conditions, new_check, new_driver, new_result}

-- a driver that is handed out has number 0, a refusal its own
pub new_number_lem : (address length : ℕ) → check_number (new_result address length) ≡ check_number (new_check address length)
unfolding new_result or_else
new_number_lem address length = go (new_check address length)
  where
    go : (c : Check) → check_number (or_else c Err (Ok (new_driver address length))) ≡ check_number c
    go (Ok tt) = refl
    go (Err r) = refl

-- where a driver can be made, its aligned start is a 32-bit address
pub new_start : (a l : ℕ) → new_check a l ≡ Ok tt → up4 a < 2 ^ 32
unfolding new_check
new_start a l h =
    let inside : in_ram a l ≡ true = not-false _ (not_due (none_due (new_conditions a l) h)).0 in
    omega (arith, (in_ram_lem a l inside).high)

-- Each refusal is given exactly where it is the first that is due, and none where none is.
pub new_bound : (address length : ℕ) → Bound (new_conditions address length) (new_check address length)
unfolding new_check
new_bound address length = bound (new_conditions address length)
