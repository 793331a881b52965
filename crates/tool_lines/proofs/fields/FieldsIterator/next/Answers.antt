-- The first field is taken off what is left.
use Rattle.std.proofs.Common.{rules, sym, ◌∙◌}
use Rattle.tool_lines.specs.FieldsLaws.{next_field}
use Rattle.tool_lines.proofs.fields.FieldsIterator.next.Goals as goal

pub returns-in-Some-clause-steps : goal.returns-in-Some-clause-steps
returns-in-Some-clause-steps c = sym c.self.view_is ∙ rw c.in_ok-line.was (next_field _ _ c.in-Some.ensures)

pub returns-in-Some-clause-goes : goal.returns-in-Some-clause-goes
returns-in-Some-clause-goes c =
    let e = returns-in-Some-clause-steps c in
    search rules
