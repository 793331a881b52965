-- What an allocation is asked with (docs/REPLAY.md, "Driver, start, power").
-- Assumes nothing.
use Rattle.std.specs.Prelude.{ℕ, Bool, cond, ◌&&◌, List, eqb, ltb, leb, Option, Some, None, option_map}
use Rattle.state.specs.declared.EndpointAddress.{EndpointAddress}
use Rattle.state.specs.declared.EndpointRequest.{EndpointRequest}
use Rattle.state.specs.declared.EndpointType.{EndpointType}
use Rattle.state.specs.declared.EndpointType.TheVariants.{Control, Isochronous, Bulk, Interrupt}
use Rattle.tool_scripts.specs.Script.{number_at}
use Rattle.tool_arguments.specs.Arguments.{flag_at}

-- the kinds by their numbers
abbrev pub kind_of : ℕ → Option EndpointType
kind_of n = cond (eqb n 0) (Some Control) (cond (eqb n 1) (Some Isochronous) (cond (eqb n 2) (Some Bulk) (cond (eqb n 3) (Some Interrupt) None)))

-- an endpoint's number is 15 at most, three numbers are bytes and two have 16 bits
abbrev pub request_fits : List ℕ → Bool
request_fits line =
    (leb (number_at line 3) 15 && (ltb (number_at line 6) 256 && (ltb (number_at line 7) 256 && ltb (number_at line 9) 256)))
    && (ltb (number_at line 5) 65536 && ltb (number_at line 8) 65536)

-- the address that is asked for, if one is
abbrev pub address_asked : List ℕ → Option EndpointAddress
address_asked line = cond (flag_at line 1) (Some (record { index = number_at line 3; incoming = flag_at line 2 })) None

abbrev pub request_with : List ℕ → EndpointType → EndpointRequest
request_with line kind =
    record {
      endpoint = address_asked line;
      ep_type = kind;
      max_packet_size = number_at line 5;
      interval_ms = number_at line 6;
      max_burst = number_at line 7;
      max_streams = number_at line 8;
      mult = number_at line 9;
    }

-- a line whose numbers don't fit, or that names no kind, asks for nothing
abbrev pub request_of : List ℕ → Option EndpointRequest
request_of line = cond (request_fits line) (option_map (request_with line) (kind_of (number_at line 4))) None
