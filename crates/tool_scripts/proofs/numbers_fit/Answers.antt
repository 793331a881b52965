-- Each number in turn: those that are left decide.
use Rattle.std.proofs.Common.{sym, ap, ◌∙◌, not}
use Rattle.tool_scripts.specs.NumbersLaws.{left_past, left_unfit, left_more, left_full, number_told}
use Rattle.tool_scripts.proofs.numbers_fit.Goals as goal

pub returns-then-is_empty : goal.returns-then-is_empty
returns-then-is_empty c = left_past c.loop.invariant (sym c.is_empty.ensures ∙ c.if-is_empty.true)

pub returns-then-is_none : goal.returns-then-is_none
returns-then-is_none c =
    left_unfit c.loop.invariant (sym c.is_empty.ensures ∙ c.if-is_empty.false)
    (number_told _ _ _ c.number.ensures.value c.is_none.ensures ∙ ap not c.if-is_none.true)

pub loop-preserved : goal.loop-preserved
loop-preserved c =
    left_more c.loop.invariant c.loop-test.true (sym c.is_empty.ensures ∙ c.if-is_empty.false)
    (number_told _ _ _ c.number.ensures.value c.is_none.ensures ∙ ap not c.if-is_none.false) c.number.ensures.others

pub returns : goal.returns
returns c = c.is_empty-2.ensures ∙ left_full c.loop.invariant c.loop-test.false
