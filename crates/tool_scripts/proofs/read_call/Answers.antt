-- The word and the numbers behind it are read, and tested together.
use Rattle.std.proofs.Common.{refl, cond, ◌≡◌}
use Rattle.tool_words.specs.declared.Word.TheVariants.{Unfit}
use Rattle.tool_scripts.specs.Script.{read_call}
use Rattle.tool_scripts.specs.NumbersLaws.{passed, word_told, call_told}
use Rattle.tool_scripts.proofs.read_call.Goals as goal
use Rattle.tool_scripts.proofs.read_call.Goals.{After-numbers_fit-fit}

told : (c : After-numbers_fit-fit) → cond c.numbers_fit-fit.result c.meaning-meant.result.call Unfit ≡ read_call c.args.line.now
told c =
    call_told _ c.unwrap_or.result.now c.next.new.self c.meaning-meant.result c.numbers_fit-fit.result
    (rw c.of-fields.ensures at (word_told _ _ _ c.unwrap_or.result _ c.next.ensures.steps c.unwrap_or.ensures refl))
    (rw c.of-fields.ensures at (passed _ _ _ c.next.ensures.steps))
    c.meaning-meant.ensures
    c.numbers_fit-fit.ensures

pub returns-then-fit : goal.returns-then-fit
returns-then-fit c = rw c.if-fit.true at (told (goal.at.returns-then-fit c).After-numbers_fit-fit)

pub returns-else-fit : goal.returns-else-fit
returns-else-fit c = rw c.if-fit.false at (told (goal.at.returns-else-fit c).After-numbers_fit-fit)
