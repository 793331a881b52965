-- The driver that a script starts.
-- Assumes nothing.
use Rattle.std.specs.Prelude.{ℕ, Bool, true, false, Some}
use Rattle.state.specs.declared.EndpointType.{EndpointType}
use Rattle.state.specs.declared.EndpointType.TheVariants.{Bulk, Interrupt, Isochronous}
use Rattle.state.specs.declared.EndpointRequest.{EndpointRequest}
use Rattle.state.specs.declared.Driver.{Driver}
use Rattle.driver_new.specs.New.{new_driver}
use Rattle.driver_allocate.specs.Allocate.{allocate_result}

-- single packets, each millisecond
abbrev pub request_of : ℕ → Bool → EndpointType → ℕ → EndpointRequest
request_of e incoming kind size =
    record {
      endpoint = Some (record { index = e; incoming = incoming });
      ep_type = kind;
      max_packet_size = size;
      interval_ms = 1;
      max_burst = 0;
      max_streams = 0;
      mult = 0;
    }

-- a driver with an endpoint more
unfoldable pub driver_also : ℕ → Bool → EndpointType → ℕ → Driver → Driver
driver_also e incoming kind size d = (allocate_result d incoming (request_of e incoming kind size)).driver

-- the endpoints of a script, in 8192 bytes of memory
unfoldable pub script_driver : Driver
script_driver =
    driver_also 4 true Isochronous 512
    (driver_also 3 false Interrupt 16
    (driver_also 2 true Interrupt 64
    (driver_also 1 false Bulk 1024
    (driver_also 1 true Bulk 1024 (new_driver 0x200A_0000 8192)))))
