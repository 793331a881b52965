-- The ledger of one direction of a data endpoint: what the rows of a history say that is begun, finished and cut there, and how many
-- bytes are moved. Of the first state its slot is read, and of the others no more than a slot's configuration.
-- Assumes nothing.
use Rattle.std.specs.Prelude.{ℕ, ◌+◌, ◌%◌, ◌^◌, Bool, true, false, cond, ◌||◌, List, [], ◌∷◌}
use Rattle.state.specs.declared.Slot.{Slot}
use Rattle.state.specs.declared.Tally.{Tally}
use Rattle.state.specs.Setters.{limit_of}
use Rattle.state_slots.specs.Slots.{idleb, slot_of}
use Rattle.transfer_piece.specs.declared.Piece.{Piece}
use Rattle.transfer_step.specs.Step.{report_step, slot_after}
use Rattle.history_ideal.specs.Ideal.{Report, Ideal}
use Rattle.history_rows.specs.Rows.{Row}
use Rattle.history_rows.specs.Memory.{Memory}
use Rattle.history_memory.specs.Remembered.{behind}
use Rattle.history_effect.specs.Seen.{Seen, Begins, Reports, Asks, Early, Cuts, Nothing}
use Rattle.history_runs.specs.Runs.{seen_in}
use Rattle.history_runs.specs.Statement.{ideal_on}

-- what is in hand
pub data Hand : Type 0 where
  Empty : Hand
  -- a transfer of the list: how it should go, and its own reports so far, the latest first
  Listed : Ideal → List Report → Hand
  -- one that is older than the list: its slot at the start, as the reports since then move it on
  Older : Slot → Hand

pub record Ledger : Type 0 where
  pub tally : Tally
  pub hand : Hand

abbrev pub holds : Hand → Bool
holds Empty = false
holds (Listed i rs) = true
holds (Older x) = true

-- the progress of what is in hand
abbrev pub moved : Hand → ℕ
moved Empty = 0
moved (Listed i rs) = i.moved rs
moved (Older x) = x.transfer.progress

-- all counts are modulo 2^32
abbrev pub plus : ℕ → ℕ → ℕ
plus n k = (n + k) % 2 ^ 32

-- a transfer that is begun; and one of n bytes that is finished, and that is cut
abbrev pub with_begun : Tally → Tally
with_begun t = record t { begun = plus t.begun 1 }

abbrev pub with_finished : Tally → ℕ → Tally
with_finished t n = record t { finished = plus t.finished 1; bytes = plus t.bytes n }

abbrev pub with_cut : Tally → ℕ → Tally
with_cut t n = record t { cut = plus t.cut 1; bytes = plus t.bytes n }

-- what is in hand is over, and is counted as `f` has it; where nothing is in hand, nothing is counted
abbrev pub closed : (Tally → ℕ → Tally) → Ledger → Ledger
closed f l = cond (holds l.hand) (record { tally = f l.tally (moved l.hand); hand = Empty }) l

-- one more report for what is in hand
abbrev pub heard : ℕ → Bool → Report → Hand → Hand
heard limit incoming r Empty = Empty
heard limit incoming r (Listed i rs) = Listed i (r ∷ rs)
heard limit incoming r (Older x) = Older (slot_after limit incoming x (report_step limit incoming r.packets r.last x))

-- What a row does, by what its call is. A take that is busy, or is lent what is unfit, finishes nothing; one that gets 9 does.
unfoldable pub entered : ℕ → Bool → (Piece → Ideal) → Seen → Ledger → Ledger
entered limit incoming goes (Begins p) l = record { tally = with_begun l.tally; hand = Listed (goes p) [] }
entered limit incoming goes (Reports r) l = record { tally = l.tally; hand = heard limit incoming r l.hand }
entered limit incoming goes (Asks unfit most busy Says) l = cond (unfit || busy) l (closed with_finished l)
entered limit incoming goes (Early Says) l = l
entered limit incoming goes Cuts l = closed with_cut l
entered limit incoming goes Nothing l = l

-- m is what is remembered before the row
abbrev pub entered_row : ℕ → Bool → Memory → Row → Ledger → Ledger
entered_row e incoming m r l =
    entered (limit_of r.world.state) incoming (ideal_on r.world incoming (slot_of r.world.state e incoming)) (seen_in e incoming m r) l

unfoldable pub ledger : ℕ → Bool → Memory → Ledger → List Row → Ledger
ledger e incoming m l [] = l
ledger e incoming m l (r ∷ later) = ledger e incoming (behind m r) (entered_row e incoming m r l) later

-- what a list starts with, of the slot x
abbrev pub ledger_of : Slot → Ledger
ledger_of x = record { tally = x.tally; hand = cond (idleb x.phase) Empty (Older x) }
