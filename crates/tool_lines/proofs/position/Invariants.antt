-- Where the byte is not in a part, it is sought behind it.
use Rattle.std.proofs.Common.{◌≡◌, ◌==◌, ◌+◌, ◌≤◌, length}
use Rattle.std.specs.List.{position_or_len}
use Rattle.tool_lines.proofs.position.Given as goal

abbrev pub invariant-loop-rest : goal.invariant-loop-rest
invariant-loop-rest l = record {
  within : length l.rest ≤ length l.bytes;
  passed : position_or_len (λ b. b == l.byte) l.bytes + length l.rest ≡ length l.bytes + position_or_len (λ b. b == l.byte) l.rest;
}

abbrev pub decreases-loop-rest : goal.decreases-loop-rest
decreases-loop-rest l = length l.rest
