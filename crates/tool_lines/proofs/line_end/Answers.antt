-- The search of the bytes from a position on, up to their end.
use Rattle.tool_lines.specs.FieldsLaws.{end_found}
use Rattle.tool_lines.proofs.line_end.Goals as goal

pub returns-in-Some : goal.returns-in-Some
returns-in-Some c = end_found _ _ _ _ _ c.in-Some.ensures.lookup.0.2 c.position.ensures c.unwrap_or.ensures
