-- The five numbers of a record, one after the other.
use Rattle.std.proofs.Common.{rules}
use Rattle.ops.proofs.Tags.{kind_tag, register_tag, field_tag}
use Rattle.ops.proofs.put_at.Goals as goal

pub returns : goal.returns
returns c =
    let row = c.args.row.now in
    rw (kind_tag row.0, register_tag row.1, field_tag row.3) (search rules)
