-- Behind each turn the records of the rows so far stand in the list.
use Rattle.std.proofs.Common.{take}
use Rattle.ops.specs.Stores.{Stored}
use Rattle.ops.specs.Wrote.{row_records}
use Rattle.ops.proofs.OpList.append.Given as goal

abbrev pub invariant-loop-row : goal.invariant-loop-row
invariant-loop-row l = Stored l.initial.numbers l.initial.end (row_records (take l.row-index l.rows)) l.end l.numbers
