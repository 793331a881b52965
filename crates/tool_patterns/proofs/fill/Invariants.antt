-- The bytes passed are filled.
use Rattle.tool_patterns.specs.PatternsLaws.{Begun}
use Rattle.tool_patterns.proofs.fill.Given as goal

abbrev pub invariant-loop-i : goal.invariant-loop-i
invariant-loop-i l = Begun l.pattern l.initial.bytes l.i l.bytes
