-- The right histories are what the calls come to, and as they must be; those that differ from them in one row aren't.
-- Assumes nothing.
use Rattle.std.specs.Prelude.{true, false, ◌≡◌, refl}
use Rattle.history_rows.specs.Rows.{rows}
use Rattle.history_runs.specs.Runs.{Transfer}
use Rattle.history_examples.specs.Lines.{calls_in, lines_of}
use Rattle.history_examples.specs.Example.{room}
use Rattle.history_examples.specs.Ready.{ready}
use Rattle.history_examples.specs.Wrong.{on, packet, packet_ideal, sent_right, told_early, silent_report, second_empty, busy_for_ever, given_up_right, begun_twice, goes_on, room_ideal, received_right, wrong_place, too_many, byte_more, still_busy}
use Rattle.history_examples.proofs.Computed.{computed}
use Rattle.history_examples.proofs.Judged.{judged}
use Rattle.history_examples.proofs.Passing.{quiet, long, past_quiet, past_long}
use Rattle.history_examples.proofs.Apart.{apart, count, place, packets, bytes}

-- ---- to the host

pub sent_right_comes : lines_of (rows ready (calls_in sent_right)) ≡ lines_of sent_right
unfolding computed
sent_right_comes = refl

pub sent_right_goes : Transfer 1 true packet_ideal packet on sent_right
unfolding judged
sent_right_goes = (refl, (refl, (refl, quiet (refl, quiet (refl, (refl, (refl, tt)))))))

pub told_early_refused : Transfer 1 true packet_ideal packet on told_early → ⊥
unfolding judged
told_early_refused h = apart bytes h.1.1.0 refl

pub silent_report_refused : Transfer 1 true packet_ideal packet on silent_report → ⊥
unfolding judged
silent_report_refused h = apart count (past_quiet h.1.1.1).0 refl

pub second_empty_refused : Transfer 1 true packet_ideal packet on second_empty → ⊥
unfolding judged
second_empty_refused h = apart count (past_quiet (past_quiet h.1.1.1).1).0 refl

pub busy_for_ever_refused : Transfer 1 true packet_ideal packet on busy_for_ever → ⊥
unfolding judged
busy_for_ever_refused h = apart bytes (past_quiet (past_quiet h.1.1.1).1).1.1.0 refl

pub begun_twice_refused : Transfer 1 true packet_ideal packet on begun_twice → ⊥
unfolding judged
begun_twice_refused h = h.1

pub given_up_right_comes : lines_of (rows ready (calls_in given_up_right)) ≡ lines_of given_up_right
unfolding computed
given_up_right_comes = refl

pub given_up_right_goes : Transfer 1 true packet_ideal packet on given_up_right
unfolding judged
given_up_right_goes = (refl, (refl, quiet (refl, tt)))

pub goes_on_refused : Transfer 1 true packet_ideal packet on goes_on → ⊥
unfolding judged
goes_on_refused h = apart count (past_quiet h.1.1).0 refl

-- ---- from the host

pub received_right_comes : lines_of (rows ready (calls_in received_right)) ≡ lines_of received_right
unfolding computed
received_right_comes = refl

pub received_right_goes : Transfer 1 false room_ideal room on received_right
unfolding judged
received_right_goes = (refl, long (refl, long (refl, (refl, (refl, tt)))))

pub wrong_place_refused : Transfer 1 false room_ideal room on wrong_place → ⊥
unfolding judged
wrong_place_refused h = apart place (past_long h.1).0 refl

pub too_many_refused : Transfer 1 false room_ideal room on too_many → ⊥
unfolding judged
too_many_refused h = apart packets (past_long h.1).0 refl

pub byte_more_refused : Transfer 1 false room_ideal room on byte_more → ⊥
unfolding judged
byte_more_refused h = apart bytes (past_long (past_long h.1).1).1.1.0 refl

pub still_busy_refused : Transfer 1 false room_ideal room on still_busy → ⊥
unfolding judged
still_busy_refused h = apart bytes (past_long (past_long h.1).1).1.1.0 refl
