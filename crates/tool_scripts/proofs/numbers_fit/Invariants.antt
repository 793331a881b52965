-- Each number in turn: those that are left decide.
use Rattle.tool_scripts.specs.Numbers.{Left}
use Rattle.tool_scripts.proofs.numbers_fit.Given as goal

abbrev pub invariant-loop : goal.invariant-loop
invariant-loop l = Left l.fn.fields l.most l.counter l.fields
