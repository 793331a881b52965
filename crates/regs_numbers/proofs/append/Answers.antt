-- Behind each turn the records of the rows so far stand in the list.
use Rattle.std.proofs.Common.{arith, take, length-take}
use Rattle.ops.specs.StoresLaws.{◌then◌, stored_length, stored_same}
use Rattle.regs_numbers.specs.WroteLaws.{row_more, rows_length}
use Rattle.regs_numbers.proofs.append.Goals as goal

pub put-end-requires : goal.put-end-requires
put-end-requires c =
    let l = c.loop-row in
    let rows = c.args.rows.now in
    omega (arith, stored_length l.invariant, l.invariant.end, rows_length (take l.row-index rows), length-take l.row-index rows)

pub loop-row-preserved : goal.loop-row-preserved
loop-row-preserved c =
    let l = c.loop-row in
    stored_same (row_more c.args.rows.now l.row-index c.loop-row-test.true) (l.invariant then c.put-end.ensures)
