-- Nothing is left where no field is.
use Rattle.std.proofs.Common.{◌∙◌, ap}
use Rattle.tool_lines.specs.Fields.{noneb}
use Rattle.tool_lines.specs.FieldsLaws.{none_left}
use Rattle.tool_lines.proofs.fields.Fields.is_empty.Goals as goal

pub returns : goal.returns
returns c = none_left _ _ c.is_none.ensures ∙ ap noneb c.self.view_is
