-- Three transfers of the example are begun and go as they should, computed row by row.
-- Assumes nothing.
use Rattle.std.specs.Prelude.{true, false, ◌≡◌, ◌++◌, refl}
use Rattle.history_rows.specs.Memory.{memory_of}
use Rattle.history_examples.specs.Lines.{calls_of}
use Rattle.history_examples.specs.Example.{prepared, image, image_begins, image_goes, sent_before, room, room_begins, room_goes, later, received_behind, four, four_begins, four_goes, cut_before, world_behind, memory_behind, Runs, Transferred}
use Rattle.history_examples.specs.Ready.{ready, image_gone, copies_gone}
use Rattle.history_examples.proofs.Computed.{computed}
use Rattle.history_examples.proofs.Judged.{judged}
use Rattle.history_examples.proofs.Passing.{silent, quiet, long}

-- ---- to the host

pub prepared_leaves : world_behind prepared ≡ ready
unfolding computed
prepared_leaves = refl

pub prepared_tells : memory_behind prepared ≡ memory_of ready.state
unfolding computed judged
prepared_tells = refl

-- Busy, and another begin is refused; three reports; the result. Then the slot is free until the next begin there.
image_runs : Runs ready (memory_of ready.state) image_begins (calls_of (image_goes ++ received_behind)) 1 true image
unfolding computed judged
image_runs = record { begun = refl; goes = (refl, (refl, (refl, (refl, quiet (refl, quiet (refl, quiet (refl, (refl, (refl, silent 14 tt))))))))) }

pub image_transferred : Transferred prepared image_begins (image_goes ++ received_behind) 1 true image
image_transferred = record { placed = refl; runs = rw (prepared_leaves, prepared_tells) image_runs }

-- ---- from the host

pub image_leaves : world_behind sent_before ≡ image_gone
unfolding computed
image_leaves = refl

pub image_tells : memory_behind sent_before ≡ memory_of image_gone.state
unfolding computed judged
image_tells = refl

-- Two reports; the result. Then the slot is free to the end.
room_runs : Runs image_gone (memory_of image_gone.state) room_begins (calls_of (room_goes ++ later)) 1 false room
unfolding computed judged
room_runs = record { begun = refl; goes = (refl, long (refl, long (refl, (refl, (refl, silent 48 tt))))) }

pub room_transferred : Transferred sent_before room_begins (room_goes ++ later) 1 false room
room_transferred = record { placed = refl; runs = rw (image_leaves, image_tells) room_runs }

-- ---- to the host, up to a bus reset

pub copies_leave : world_behind cut_before ≡ copies_gone
unfolding computed
copies_leave = refl

pub copies_tell : memory_behind cut_before ≡ memory_of copies_gone.state
unfolding computed judged
copies_tell = refl

-- Neither wakeup does anything to it, nor do suspend and resume: the take behind them is busy. The link status of the hot reset cuts
-- it, and the take behind that is refused.
four_runs : Runs copies_gone (memory_of copies_gone.state) four_begins (calls_of four_goes) 1 true four
unfolding computed judged
four_runs = record { begun = refl; goes = (refl, silent 16 (refl, (refl, silent 5 (refl, (refl, (refl, tt)))))) }

pub four_transferred : Transferred cut_before four_begins four_goes 1 true four
four_transferred = record { placed = refl; runs = rw (copies_leave, copies_tell) four_runs }
