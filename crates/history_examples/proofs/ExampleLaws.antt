-- What the example comes to, computed; and that the theorem about every list of calls is about it.
-- Assumes nothing.
use Rattle.std.specs.Prelude.{ℕ, Bool, true, false, ◌≡◌, refl, List}
use Rattle.state.specs.declared.Slot.{Slot}
use Rattle.state.specs.Setters.{limit_of}
use Rattle.state_slots.specs.Slots.{slot_of, slot_size}
use Rattle.transfer_piece.specs.declared.Piece.{Piece}
use Rattle.history_ideal.specs.Plan.{Planned}
use Rattle.history_follows.specs.Follows.{Fits}
use Rattle.usbss.specs.Call.{World, Call}
use Rattle.history_rows.specs.Rows.{rows}
use Rattle.history_rows.specs.Memory.{Sound}
use Rattle.history_runs.specs.Statement.{ideal_on, EachTransfer}
use Rattle.history_tally.specs.Ledger.{entered, ledger}
use Rattle.history_tally.specs.Statement.{ledger_at}
use Rattle.history.specs.Statement.{EveryHistory}
use Rattle.history.proofs.EveryHistory.{every_history}
use Rattle.history_examples.specs.Lines.{Line, calls_of, lines_of}
use Rattle.history_examples.specs.Example.{start, example, world_behind, counted_at_end, sent_ledger, received_ledger, Transferred}
use Rattle.history_examples.proofs.Computed.{computed}
use Rattle.history_examples.proofs.Judged.{judged}

pub comes_to : lines_of (rows start (calls_of example)) ≡ example
unfolding computed
comes_to = refl

-- ---- the counts: what the rows say, and what the slots have

pub sent_entered : ledger_at 1 true start (calls_of example) ≡ sent_ledger
unfolding computed judged entered ledger
sent_entered = refl

pub received_entered : ledger_at 1 false start (calls_of example) ≡ received_ledger
unfolding computed judged entered ledger
received_entered = refl

pub sent_counted : counted_at_end true ≡ sent_ledger.tally
unfolding computed
sent_counted = refl

pub received_counted : counted_at_end false ≡ received_ledger.tally
unfolding computed
received_counted = refl

-- ---- the theorem

pub start_sound : Sound start
unfolding computed
start_sound = refl

pub example_holds : EveryHistory start (calls_of example)
example_holds = every_history start start_sound (calls_of example)

-- which says of each transfer that is shown to go as it should, that this is what document 01 asks, and that no address wraps
pub transferred_planned : {before : List Line} {c : Call} {after : List Line} {e : ℕ} {incoming : Bool} {p : Piece} → Transferred before c after e incoming p
    → let v : World = world_behind before in
    let x : Slot = slot_of v.state e incoming in
    Planned (limit_of v.state) incoming (slot_size x) p (ideal_on v incoming x p) × Fits incoming x p
unfolding EachTransfer
transferred_planned {before} {c} {after} {e} {incoming} {p} t =
    (example_holds.runs.transfers (calls_of before) c (calls_of after) e incoming p t.placed t.runs.begun).1
