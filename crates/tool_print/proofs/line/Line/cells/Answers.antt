-- One number more stands behind the text.
use Rattle.std.proofs.Common.{ℕ, ◌+◌, ◌<◌, ◌≡◌, ◌∙◌, List, ◌++◌, add-one, arith, drop, drop-cons, length, get_or, decimal}
use Rattle.tool_print.specs.Text.{tab, cells}
use Rattle.tool_print.proofs.line.Line.cells.Goals as goal

one_more : (text next numbers : List ℕ) (i : ℕ) → i < length numbers → next ≡ text ++ tab ++ decimal (get_or numbers i 0) →
    cells text (drop i numbers) ≡ cells next (drop (i + 1) numbers)
one_more text next numbers i h e = rw (e, add-one i, drop-cons numbers i 0 h)

pub loop-n-preserved : goal.loop-n-preserved
loop-n-preserved g c =
    let l = c.loop-n in
    let put = c.cell.ensures in
    (l.invariant.0 ∙ one_more _ _ _ _ c.loop-n-test.true put.digits, omega (arith, l.invariant.1, put.len))
