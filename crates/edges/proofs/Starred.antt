-- What the edges' definitions give is what the paper says.
-- Assumes nothing.
use Rattle.std.specs.Prelude.{List, ◌++◌, refl}
use Rattle.std.proofs.lemmas.List.{map-append}
use Rattle.ops.specs.Sequence.{up_to}
use Rattle.base.specs.Each.{every, count}
use Rattle.base.specs.Ceil.{div_ceil}
use Rattle.state_sound.specs.Sound.{driver_soundb, soundb}
use Rattle.state_call.specs.Outcome.{or_else}
use Rattle.driver_new.specs.New.{new_check, new_result}
use Rattle.driver_allocate.specs.Rules.{lowest}
use Rattle.driver_allocate.specs.Allocate.{allocate_check, placed, allocate_result}
use Rattle.transfer_chain.specs.Chains.{chain_packets, chain_bytes}
use Rattle.transfer_window.specs.Window.{out_window, windows_ops}
use Rattle.transfer_begin.specs.Begin.{begin_call}
use Rattle.transfer_report.specs.Report.{report_state, report_ops}
use Rattle.bus_events.specs.Raise.{raise_call}
use Rattle.bus_events.specs.Poll.{poll_call}
use Rattle.edges.specs.Edges.{Edge, creation, chains, reports, pending, edges, Right}

both : (a b : List Edge) → Right a → Right b → Right (a ++ b)
both a b h k = rw (map-append (λ (e : Edge). e.found) a b, map-append (λ (e : Edge). e.paper) a b, h, k)

right_creation : Right creation
unfolding every driver_soundb lowest new_check new_result allocate_check placed allocate_result or_else
right_creation = refl

right_chains : Right chains
unfolding every count div_ceil soundb chain_packets chain_bytes up_to out_window windows_ops or_else begin_call report_state report_ops
right_chains = refl

right_reports : Right reports
unfolding every count div_ceil soundb chain_packets chain_bytes up_to out_window windows_ops or_else begin_call report_state
right_reports = refl

right_events : Right pending
unfolding every soundb or_else raise_call poll_call
right_events = refl

pub starred : Right edges
starred = both creation (chains ++ (reports ++ pending)) right_creation (both chains (reports ++ pending) right_chains (both reports pending right_reports right_events))
