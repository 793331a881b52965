-- What a begin of a send or receive needs to know: the code's own gathering of the choices in endpoint_choice.
-- Assumes nothing.
use Rattle.std.specs.Prelude.{ℕ, true, false}
use Rattle.state.specs.declared.Slot.{Slot}
use Rattle.endpoint_choice.specs.declared.Asked.{Asked}
use Rattle.endpoint_choice.specs.Choice.{place, longer, own_unfit, send_direct, send_piece, send_begins, receive_direct, receive_piece}
use Rattle.endpoint_plan.specs.declared.Plan.{Plan}

abbrev pub send_plan : Slot → Asked → ℕ → ℕ → Plan
send_plan x k own_address own_size =
    record {
      piece = send_piece x k;
      direct = send_direct k;
      at = place k;
      faults = record { long = longer x k; unfit = own_unfit x own_address own_size };
      begins = send_begins x k;
    }

abbrev pub receive_plan : Slot → Asked → ℕ → ℕ → Plan
receive_plan x k own_address own_size =
    record {
      piece = receive_piece x k;
      direct = receive_direct x k;
      at = place k;
      faults = record { long = false; unfit = own_unfit x own_address own_size };
      begins = true;
    }
