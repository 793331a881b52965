-- The table has the rows in their sequence, by one computed test.
use Rattle.std.proofs.Common.{◌∙◌, refl}
use Rattle.tool_words.specs.RowsLaws.{told}
use Rattle.tool_words.proofs.meaning.Goals as goal

pub returns : goal.returns
returns c = c.named.ensures ∙ told _ _ refl
