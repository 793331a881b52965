-- `in_hand_count`: so many of the slots seen so far.
use Rattle.std.proofs.Common.{◌≡◌, ◌≤◌}
use Rattle.transfer_window.specs.Window.{in_hand_count}
use Rattle.transfer_window.proofs.in_hand_count.Given as goal

abbrev pub invariant-loop-n : goal.invariant-loop-n
invariant-loop-n l = record { few : l.count ≤ l.n; so_far : l.count ≡ in_hand_count l.state l.n }
