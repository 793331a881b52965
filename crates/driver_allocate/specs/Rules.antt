-- What an endpoint may be, and where its buffer lies (document 01, allocation).
-- Assumes nothing.
use Rattle.std.specs.Prelude.{ℕ, zero, suc, ◌+◌, ◌*◌, Bool, true, false, ◌&&◌, not, cond, eqb, leb, Option, Some, None}
use Rattle.std.specs.Bool.{beq}
use Rattle.state.specs.declared.EndpointAddress.{EndpointAddress}
use Rattle.state.specs.declared.EndpointType.{EndpointType}
use Rattle.state.specs.declared.EndpointType.TheVariants.{Control, Isochronous, Bulk, Interrupt}
use Rattle.state.specs.declared.EndpointRequest.{EndpointRequest}
use Rattle.state.specs.declared.Driver.{Driver}
use Rattle.state_slots.specs.Slots.{slot_number, configured}
use Rattle.state.specs.Fresh.{allocation_at}
use Rattle.driver_new.specs.New.{up4}

-- which rules endpoints are held to; there is one set of them
pub data Profile : Type 0 where
  present : Profile

abbrev pub profile_of : Driver → Profile
profile_of d = present

-- refusal 3: bulk has packets of 1024 bytes; interrupt and isochronous of 1–1024, with an interval; control is never allocated
abbrev pub periodic_fits : ℕ → ℕ → Bool
periodic_fits size interval = leb 1 size && leb size 1024 && not (eqb interval 0)

abbrev pub size_fits : Profile → EndpointType → ℕ → ℕ → Bool
size_fits present Control size interval = false
size_fits present Isochronous size interval = periodic_fits size interval
size_fits present Bulk size interval = eqb size 1024
size_fits present Interrupt size interval = periodic_fits size interval

-- refusal 4: burst 0–15, neither streams nor mult
abbrev pub burst_fits : Profile → ℕ → ℕ → ℕ → Bool
burst_fits present burst streams mult = leb burst 15 && eqb streams 0 && eqb mult 0

-- refusal 5: an address that is requested has the direction that is allocated
abbrev pub direction_fits : Option EndpointAddress → Bool → Bool
direction_fits None ours = true
direction_fits (Some a) ours = beq a.incoming ours

-- the lowest of 1, 2, .., n that p is true of, or 0
unfoldable pub lowest : (ℕ → Bool) → ℕ → ℕ
lowest p zero = 0
lowest p (suc n) = cond (eqb (lowest p n) 0 && p (suc n)) (suc n) (lowest p n)

-- none where it is 0
abbrev pub found : ℕ → Option ℕ
found zero = None
found (suc n) = Some (suc n)

-- whether an endpoint is the one requested, if one is
abbrev pub index_fits : Option EndpointAddress → ℕ → Bool
index_fits None e = true
index_fits (Some a) e = eqb a.index e

-- whether endpoint e isn't allocated yet, and is the one requested if one is
abbrev pub available : Driver → Bool → Option EndpointAddress → ℕ → Bool
available d incoming requested e = not (configured (allocation_at d (slot_number e incoming))) && index_fits requested e

-- the endpoint that a request gets; 0 where refusal 20 is due
abbrev pub endpoint_for : Driver → Bool → EndpointRequest → ℕ
endpoint_for d incoming r = lowest (available d incoming r.endpoint) 7

-- its own buffer: offset in the memory, length, and where it ends
abbrev pub start_for : Driver → ℕ
start_for d = up4 d.used

abbrev pub size_for : EndpointRequest → ℕ
size_for r = r.max_packet_size * (r.max_burst + 1)

abbrev pub end_for : Driver → EndpointRequest → ℕ
end_for d r = start_for d + size_for r
