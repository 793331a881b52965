-- Refused, or copied and begun.
use Rattle.std.proofs.Common.{rules, ◌≡◌, refl, ap, sym, ◌∙◌, length, arith}
use Rattle.std.proofs.Math.Seq.{take-length}
use Rattle.ops.specs.WroteLaws.{same, none}
use Rattle.state.specs.Refusals.{first_refusal}
use Rattle.control_stage.specs.Stage.{ep0_unfit, stage_numbers}
use Rattle.control_in.specs.DataIn.{data_in_conditions}
use Rattle.control_in.specs.DataInLaws.{data_in_refused, data_in_made, data_in_fits}
use Rattle.control_in.proofs.data_in.Goals as goal
use Rattle.control_in.proofs.data_in.Goals.{After-packet_check-check}

checked : (c : After-packet_check-check) → first_refusal (data_in_conditions (length c.args.ops.now) c.args.state c.args.events c.args.generation (length c.args.bytes.now) (ep0_unfit c.args.state c.args.address (length c.args.ep0.now))) ≡ c.packet_check-check.result
checked c = sym (rw (c.is_unfit-unfit.ensures, c.is_served-served.ensures, c.new-lent.ensures) at c.packet_check-check.ensures)

pub returns-in-Err : goal.returns-in-Err
returns-in-Err c =
    let a = c.args in
    let o = data_in_refused (length a.ops.now) a.state a.events a.generation a.bytes.now a.address (length a.ep0.now) a.first a.last _ (checked (goal.at.returns-in-Err c).After-packet_check-check ∙ c.in-Err.is) in
    let x = c.answered.ensures in
    record { answer = x.answer ∙ o.0; state = x.state ∙ o.1.0; list = same o.1.1.0 (rw x.end (none _ 0)); wakes = x.wakes ∙ o.1.1.1.0; numbers = ap stage_numbers x.answer ∙ o.1.1.1.1.1; lent = rw (sym o.1.1.1.1.0) refl }

pub returns : goal.returns
returns c =
    let a = c.args in
    let e = checked (goal.at.returns c).After-packet_check-check ∙ c.in_default.is in
    let o = data_in_made (length a.ops.now) a.state a.events a.generation a.bytes.now a.address (length a.ep0.now) a.first a.last e in
    let f = data_in_fits (length a.ops.now) a.state a.events a.generation a.bytes.now a.address (length a.ep0.now) a.first a.last e in
    let k = c.copy-length.ensures in
    let whole : c.copy-length.result ≡ length a.bytes.now = omega (arith, k.count, f.1.0, f.1.1) in
    let x = c.wrote.ensures in
    record { answer = x.answer ∙ o.0; state = x.state ∙ rw c.staged.ensures o.1.0; list = same o.1.1.0 (rw x.end (rw (← whole, ← c.next_sequence-sequence.ensures) (search rules))); wakes = x.wakes ∙ o.1.1.1.0; numbers = ap stage_numbers x.answer ∙ o.1.1.1.1.1; lent = rw (sym o.1.1.1.1.0) (rw (whole, take-length a.bytes.now) at k.stored) }
