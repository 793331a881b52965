-- The name of a field: the table has the name of each number, by two computed tests.
use Rattle.tool_fields.specs.FieldNames.{field_name, field_names}
use Rattle.tool_rows.specs.RowsLaws.{table_named}
use Rattle.tool_fields.proofs.field_name.Goals as goal

pub returns : goal.returns
unfolding field_name
returns c =
    let n = table_named _ _ field_names _ c.name.ensures tt tt in
    record { name = n.0; has_room = n.1 }
