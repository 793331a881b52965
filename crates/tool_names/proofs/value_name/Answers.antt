-- The name of an enumerated value: the table has the name of each number, by two computed tests.
use Rattle.tool_names.specs.Names.{value_name, value_names}
use Rattle.tool_rows.specs.RowsLaws.{table_named}
use Rattle.tool_names.proofs.value_name.Goals as goal

pub returns : goal.returns
unfolding value_name
returns c =
    let n = table_named _ _ value_names _ c.name.ensures tt tt in
    record { name = n.0; has_room = n.1 }
