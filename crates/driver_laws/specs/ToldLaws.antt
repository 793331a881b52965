-- The result of a creation and of a request with its numbers; the lowest free endpoint, number by number.
-- Assumes nothing.
use Rattle.std.specs.Prelude.{ℕ, ◌+◌, Bool, ◌&&◌, cond, ◌≡◌, refl, eqb, Result}
use Rattle.std.proofs.Common.{add-one}
use Rattle.state.specs.declared.Driver.{Driver}
use Rattle.state.specs.declared.EndpointRequest.{EndpointRequest}
use Rattle.state.specs.declared.Refusal.{Refusal}
use Rattle.state.specs.Numbers.{check_number}
use Rattle.driver_new.specs.New.{new_check, new_result}
use Rattle.driver_new.specs.NewLaws.{new_number_lem}
use Rattle.driver_allocate.specs.Rules.{lowest}
use Rattle.driver_allocate.specs.Allocate.{Allocated, allocate_check, allocate_result, allocate_numbers, numbers_for}
use Rattle.driver_allocate.specs.AllocateLaws.{allocate_numbers_lem}

pub lowest_none : (p : ℕ → Bool) → lowest p 0 ≡ 0
unfolding lowest
lowest_none p = refl

pub lowest_next : (p : ℕ → Bool) (n : ℕ) → lowest p (n + 1) ≡ cond (eqb (lowest p n) 0 && p (n + 1)) (n + 1) (lowest p n)
unfolding lowest
lowest_next p n = rw (add-one n)

pub new_told : (r : Result Driver Refusal) (address length : ℕ) → r ≡ new_result address length
    → (r ≡ new_result address length) × (check_number r ≡ check_number (new_check address length))
new_told r address length e = (e, rw e (new_number_lem address length))

pub allocate_told : (x : Allocated) (d : Driver) (incoming : Bool) (r : EndpointRequest) → x ≡ allocate_result d incoming r
    → (x ≡ allocate_result d incoming r) × (allocate_numbers x.answer ≡ numbers_for (allocate_check d incoming r) d incoming r)
allocate_told x d incoming r e = (e, rw e (allocate_numbers_lem d incoming r))
