-- What was found in the table, or nothing past its end.
use Rattle.std.proofs.Common.{refl, arith}
use Rattle.tool_rows.specs.RowsLaws.{looked_up}
use Rattle.tool_rows.proofs.name.Goals as goal

pub returns : goal.returns
returns c = looked_up _ _ _ _ _ _ c.copied.ensures c.unwrap_or.ensures (c.get.ensures.lookup.4 (omega arith)) refl
