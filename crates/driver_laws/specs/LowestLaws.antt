-- That the words "lowest" and "next multiple of 4" are earned.
-- Assumes nothing.
use Rattle.std.specs.Prelude.{ℕ, zero, suc, ◌%◌, ◌≤◌, ◌<◌, Bool, true, false, ◌&&◌, not, cond, ◌≡◌, refl, eqb, Option, Some, None}
use Rattle.std.proofs.Common.{sym, arith, eqb-true}
use Rattle.std.proofs.lemmas.Bool.{eqb-false, not-true}
use Rattle.state.specs.declared.EndpointAddress.{EndpointAddress}
use Rattle.state.specs.declared.EndpointConfig.{EndpointConfig}
use Rattle.state.specs.declared.EndpointRequest.{EndpointRequest}
use Rattle.state.specs.declared.Driver.{Driver}
use Rattle.state_slots.specs.Slots.{slot_number, configured}
use Rattle.state.specs.Fresh.{allocation_at}
use Rattle.base.specs.EachLaws.{and_left, and_right, true_not_false}
use Rattle.driver_new.specs.New.{up4}
use Rattle.driver_allocate.specs.Rules.{lowest, index_fits, available, endpoint_for}

pub up4_above : (n : ℕ) → n ≤ up4 n
up4_above n = omega arith

pub up4_even : (n : ℕ) → up4 n % 4 ≡ 0
up4_even n = omega arith

pub up4_least : (n m : ℕ) → n ≤ m → m % 4 ≡ 0 → up4 n ≤ m
up4_least n m h e = omega (arith, h, e)

-- k is the lowest of 1, .., n that p is true of; or 0, and p is true of none
pub record Lowest (p : ℕ → Bool) (n k : ℕ) : Type 0 where
  pub within : k ≤ n
  pub true_of : (k ≡ 0 → ⊥) → p k ≡ true
  pub none_below : (j : ℕ) → 1 ≤ j → j < k → p j ≡ false
  pub none_at_all : k ≡ 0 → (j : ℕ) → 1 ≤ j → j ≤ n → p j ≡ false

pub lowest_is : (p : ℕ → Bool) (n : ℕ) → Lowest p n (lowest p n)
unfolding lowest
lowest_is p zero = record { within = omega arith; true_of = λ h. absurd (h refl); none_below = λ j h k. absurd (omega (arith, h, k)); none_at_all = λ z j h k. absurd (omega (arith, h, k)) }
lowest_is p (suc n) = go (eqb (lowest p n) 0) refl (p (suc n)) refl (lowest_is p n)
  where
    go : (b : Bool) → eqb (lowest p n) 0 ≡ b → (c : Bool) → p (suc n) ≡ c → Lowest p n (lowest p n) → Lowest p (suc n) (cond (b && c) (suc n) (lowest p n))
    go false e c q l =
        record {
          within = omega (arith, l.within);
          true_of = l.true_of;
          none_below = l.none_below;
          none_at_all = λ z. absurd (eqb-false (lowest p n) 0 e z);
        }
    go true e true q l =
        record {
          within = omega arith;
          true_of = λ h. q;
          none_below = λ j h k. l.none_at_all (eqb-true (lowest p n) 0 e) j h (omega (arith, k));
          none_at_all = λ z. absurd (omega (arith, z));
        }
    go true e false q l =
        record {
          within = omega (arith, l.within);
          true_of = l.true_of;
          none_below = l.none_below;
          none_at_all = λ z j h k. last j (eqb j (suc n)) refl h k;
        }
      where
        last : (j : ℕ) (b : Bool) → eqb j (suc n) ≡ b → 1 ≤ j → j ≤ suc n → p j ≡ false
        last j true t h k = rw (eqb-true j (suc n) t) q
        last j false t h k = l.none_at_all (eqb-true (lowest p n) 0 e) j h (omega (arith, k, eqb-false j (suc n) t))

-- the endpoint that a request gets is 1 to 7, was free, and is the one requested if one is
pub record Fitting (d : Driver) (incoming : Bool) (r : EndpointRequest) : Type 0 where
  pub least : 1 ≤ endpoint_for d incoming r
  pub most : endpoint_for d incoming r ≤ 7
  pub free : allocation_at d (slot_number (endpoint_for d incoming r) incoming) ≡ None
  pub requested : (a : EndpointAddress) → r.endpoint ≡ Some a → endpoint_for d incoming r ≡ a.index

unallocated : (o : Option EndpointConfig) → configured o ≡ false → o ≡ None
unallocated None h = refl
unallocated (Some k) h = absurd (true_not_false h)

asked : (o : Option EndpointAddress) (a : EndpointAddress) (e : ℕ) → o ≡ Some a → index_fits o e ≡ true → e ≡ a.index
asked o a e q h = sym (eqb-true a.index e (rw q at h))

pub fitting : (d : Driver) (incoming : Bool) (r : EndpointRequest) → (endpoint_for d incoming r ≡ 0 → ⊥) → Fitting d incoming r
fitting d incoming r n =
    let e = endpoint_for d incoming r in
    let l = lowest_is (available d incoming r.endpoint) 7 in
    let t = l.true_of n in
    let here = allocation_at d (slot_number e incoming) in
    record {
      least = omega (arith, n);
      most = l.within;
      free = unallocated here (not-true (configured here) (and_left (not (configured here)) (index_fits r.endpoint e) t));
      requested = λ a q. asked r.endpoint a e q (and_right (not (configured here)) (index_fits r.endpoint e) t);
    }
