-- Behind each turn the numbers that are left make the text what it is to be.
use Rattle.std.proofs.Common.{◌≡◌, ◌+◌, ◌*◌, ◌≤◌, length, drop}
use Rattle.tool_print.specs.Text.{cells}
use Rattle.tool_print.proofs.line.Line.cells.Given as goal

abbrev pub invariant-loop-n : goal.invariant-loop-n
invariant-loop-n g l = (cells l.initial.self l.numbers ≡ cells l.self (drop l.n-index l.numbers)) × (length l.self ≤ length l.initial.self + 11 * l.n-index)
