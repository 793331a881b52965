-- Allocating an endpoint (reference: `Driver::allocate`).
-- Assumes nothing.
use Rattle.std.specs.Prelude.{ℕ, ◌+◌, ◌≤◌, Bool, true, not, List, [], ◌∷◌, ◌≡◌, eqb, ltb, set, Some, Result, Ok, Err}
use Rattle.state.specs.declared.EndpointAddress.{EndpointAddress}
use Rattle.state.specs.declared.EndpointConfig.{EndpointConfig}
use Rattle.state.specs.declared.EndpointRequest.{EndpointRequest}
use Rattle.state.specs.declared.Driver.{Driver}
use Rattle.state.specs.declared.Refusal.{Refusal}
use Rattle.state.specs.declared.Refusal.TheVariants.{UnfitPacketSize, UnfitBurst, WrongDirection, NoFreeEndpoint, NoRoom, Unsound}
use Rattle.state_slots.specs.Slots.{slot_number}
use Rattle.state.specs.Numbers.{refusal_number}
use Rattle.state.specs.Refusals.{Check, Condition, ◌if◌, first_refusal}
use Rattle.state_sound.specs.Sound.{driver_soundb}
use Rattle.state_call.specs.Outcome.{or_else}
use Rattle.state_sound.proofs.FactLaws.{DriverFacts}
use Rattle.driver_allocate.specs.Rules.{profile_of, size_fits, burst_fits, direction_fits, endpoint_for, start_for, size_for, end_for}

abbrev pub allocate_conditions : Driver → Bool → EndpointRequest → List Condition
allocate_conditions d incoming r =
    Unsound if not (driver_soundb d)
    ∷ UnfitPacketSize if not (size_fits (profile_of d) r.ep_type r.max_packet_size r.interval_ms)
    ∷ UnfitBurst if not (burst_fits (profile_of d) r.max_burst r.max_streams r.mult)
    ∷ WrongDirection if not (direction_fits r.endpoint incoming)
    ∷ NoFreeEndpoint if eqb (endpoint_for d incoming r) 0
    ∷ NoRoom if ltb d.capacity (end_for d r)
    ∷ []

unfoldable pub allocate_check : Driver → Bool → EndpointRequest → Check
allocate_check d incoming r = first_refusal (allocate_conditions d incoming r)

-- the endpoint that the request gets
abbrev pub address_for : Driver → Bool → EndpointRequest → EndpointAddress
address_for d incoming r = record { index = endpoint_for d incoming r; incoming = incoming }

abbrev pub config_for : Driver → Bool → EndpointRequest → EndpointConfig
config_for d incoming r =
    record {
      endpoint = address_for d incoming r;
      ep_type = r.ep_type;
      max_packet_size = r.max_packet_size;
      interval_ms = r.interval_ms;
      max_burst = r.max_burst;
      buffer = record { address = d.memory + start_for d; size = size_for r };
    }

-- the driver with that endpoint
abbrev pub driver_with : Driver → Bool → EndpointRequest → Driver
driver_with d incoming r =
    record {
      memory = d.memory;
      capacity = d.capacity;
      used = end_for d r;
      endpoints = set d.endpoints (slot_number (endpoint_for d incoming r) incoming) (Some (config_for d incoming r));
    }

-- what a request comes to
pub record Allocated : Type 0 where
  pub answer : Result EndpointConfig Refusal
  pub driver : Driver

unfoldable pub placed : Driver → Bool → EndpointRequest → Allocated
placed d incoming r = record { answer = Ok (config_for d incoming r); driver = driver_with d incoming r }

-- a refused request leaves the driver as it was
abbrev pub allocate_at : Check → Driver → Bool → EndpointRequest → Allocated
allocate_at c d incoming r = or_else c (λ q. record { answer = Err q; driver = d }) (placed d incoming r)

unfoldable pub allocate_result : Driver → Bool → EndpointRequest → Allocated
allocate_result d incoming r = allocate_at (allocate_check d incoming r) d incoming r

-- the numbers of an answer: the refusal's, or 0 and the endpoint, its buffer's address and length
abbrev pub allocate_numbers : (Result EndpointConfig Refusal) → List ℕ
allocate_numbers (Err q) = refusal_number q ∷ []
allocate_numbers (Ok k) = 0 ∷ k.endpoint.index ∷ k.buffer.address ∷ k.buffer.size ∷ []

abbrev pub numbers_for : Check → Driver → Bool → EndpointRequest → List ℕ
numbers_for c d incoming r = or_else c (λ q. refusal_number q ∷ []) (0 ∷ endpoint_for d incoming r ∷ (d.memory + start_for d) ∷ size_for r ∷ [])

-- what an accepted request has
pub record AcceptedRequest (d : Driver) (incoming : Bool) (r : EndpointRequest) : Type 0 where
  pub driver : DriverFacts d
  pub size : size_fits (profile_of d) r.ep_type r.max_packet_size r.interval_ms ≡ true
  pub burst : burst_fits (profile_of d) r.max_burst r.max_streams r.mult ≡ true
  pub direction : direction_fits r.endpoint incoming ≡ true
  pub found : endpoint_for d incoming r ≡ 0 → ⊥
  pub room : end_for d r ≤ d.capacity

-- no sum of an accepted request leaves the 32 bits
pub record Placeable (d : Driver) (incoming : Bool) (r : EndpointRequest) : Type 0 where
  pub memory : d.memory + end_for d r ≤ 0x20180000
