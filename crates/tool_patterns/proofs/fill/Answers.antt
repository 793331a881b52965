-- The bytes passed are filled.
use Rattle.tool_patterns.specs.PatternsLaws.{none_filled, one_more}
use Rattle.tool_patterns.proofs.fill.Goals as goal

pub loop-i-init : goal.loop-i-init
loop-i-init c = none_filled _ _

pub loop-i-preserved : goal.loop-i-preserved
loop-i-preserved c = one_more c.loop-i.invariant c.pattern_byte.ensures c.loop-i-test.true
