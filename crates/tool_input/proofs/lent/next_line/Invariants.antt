-- What hasn't been given out lies in the buffer.
use Rattle.std.proofs.Common.{◌≡◌, ◌≤◌, length}
use Rattle.tool_input.proofs.lent.next_line.Given as goal

abbrev pub invariant-loop : goal.invariant-loop
invariant-loop g l = ((l.from ≤ l.end) × (l.end ≤ length l.buffer)) × (length l.buffer ≡ length l.initial.buffer)
