-- The word and the numbers before it are passed.
use Rattle.tool_scripts.specs.NumbersLaws.{number_found, all_passed}
use Rattle.tool_scripts.proofs.number.Goals as goal

pub returns : goal.returns
returns c =
    number_found _ c.args.k _ _ _ (rw c.of-fields.ensures at (all_passed _ _ _ _ c.nth.ensures.ran)) c.number.ensures.value c.unwrap_or.ensures
