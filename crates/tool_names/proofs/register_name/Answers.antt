-- The name of a register: the table has the name of each number, by two computed tests.
use Rattle.tool_names.specs.Names.{register_name, register_names}
use Rattle.tool_rows.specs.RowsLaws.{table_named}
use Rattle.tool_names.proofs.register_name.Goals as goal

pub returns : goal.returns
unfolding register_name
returns c =
    let n = table_named _ _ register_names _ c.name.ensures tt tt in
    record { name = n.0; has_room = n.1 }
