-- What an interrupt's calls ask for: the right history asks for each reading in turn; one that ends early doesn't, nor one that never
-- ends.
-- Assumes nothing.
use Rattle.std.specs.Prelude.{ℕ, suc, ◌≡◌, refl}
use Rattle.state.specs.Awaiting.{awaiting_number}
use Rattle.history_rows.specs.Rows.{rows}
use Rattle.history_memory.specs.Sequence.{behind_place, follows}
use Rattle.history_memory.specs.Remembered.{remembered}
use Rattle.history_memory.specs.Asked.{AsksNext, EachAsks}
use Rattle.history_examples.specs.Lines.{calls_in, lines_of}
use Rattle.history_examples.specs.Ready.{ready}
use Rattle.history_examples.specs.Wrong.{on, heard_right, early_end, same_again}
use Rattle.history_examples.proofs.Computed.{computed}
use Rattle.history_examples.proofs.Passing.{past_quiet, past_long}
use Rattle.history_examples.proofs.Apart.{apart}

pub heard_right_comes : lines_of (rows ready (calls_in heard_right)) ≡ lines_of heard_right
unfolding computed
heard_right_comes = refl

pub heard_right_asks : EachAsks on heard_right
unfolding EachAsks AsksNext behind_place follows remembered
heard_right_asks = (refl, (refl, (refl, (refl, (refl, (refl, tt))))))

pub early_end_refused : EachAsks on early_end → ⊥
unfolding EachAsks AsksNext behind_place follows remembered
early_end_refused h = apart awaiting_number (past_quiet h).0 refl

-- the first time is once too often
pub same_again_refused : (n : ℕ) → EachAsks on (same_again (suc n)) → ⊥
unfolding EachAsks AsksNext behind_place follows remembered
same_again_refused n h = apart awaiting_number (past_long h).0 refl
