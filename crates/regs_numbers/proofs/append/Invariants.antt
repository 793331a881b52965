-- Behind each turn the records of the rows so far stand in the list.
use Rattle.std.proofs.Common.{take}
use Rattle.ops.specs.Stores.{Stored}
use Rattle.regs_numbers.specs.Wrote.{row_records}
use Rattle.regs_numbers.proofs.append.Given as goal

abbrev pub invariant-loop-row : goal.invariant-loop-row
invariant-loop-row l = Stored l.initial.ops l.at (row_records (take l.row-index l.rows)) l.end l.ops
