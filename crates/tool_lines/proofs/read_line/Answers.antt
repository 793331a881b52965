-- The fields are read in turn: what is left behind each decides.
use Rattle.std.proofs.Common.{[], ◌∷◌, sym, ◌∙◌}
use Rattle.tool_lines.specs.ReadLaws.{Left, directed_on, not_directed, no_word, numbered_on, not_numbered, not_flagged, read_to_end, more_behind}
use Rattle.tool_lines.proofs.read_line.Goals as goal
use Rattle.tool_lines.proofs.read_line.Goals.{In_ok-incoming, In_ok-endpoint, In_ok-max_packet_size, In_ok-own, In_ok-address, In_ok-length, In_ok-number, In_ok-zlp}

pub returns-in_err-next : goal.returns-in_err-next
returns-in_err-next c = c.from_residual.ensures ∙ no_word _ c.of-fields.ensures c.in_err-next.ensures.steps.0

pub returns-in_err-incoming : goal.returns-in_err-incoming
returns-in_err-incoming c =
    c.from_residual-in_err-incoming.ensures ∙ not_directed _ c.of-fields.ensures c.in_ok-next.ensures.steps c.in_err-incoming.ensures

behind-incoming : (c : In_ok-incoming) → Left c.args.line.now 6 c.in_ok-incoming.incoming [] c.next.new.self
behind-incoming c = directed_on _ c.of-fields.ensures c.in_ok-next.ensures.steps c.in_ok-incoming.ensures

pub returns-in_err-endpoint : goal.returns-in_err-endpoint
returns-in_err-endpoint c = c.from_residual-in_err-endpoint.ensures ∙ not_numbered 5 (behind-incoming (goal.at.returns-in_err-endpoint c).In_ok-incoming) c.in_err-endpoint.ensures.value

behind-endpoint : (c : In_ok-endpoint) → Left c.args.line.now 5 c.in_ok-incoming.incoming (c.in_ok-endpoint.endpoint ∷ []) c.number.new.self
behind-endpoint c = numbered_on 5 (behind-incoming (goal.at.In_ok-endpoint c).In_ok-incoming) c.in_ok-endpoint.ensures.value c.in_ok-endpoint.ensures.others

pub returns-in_err-max_packet_size : goal.returns-in_err-max_packet_size
returns-in_err-max_packet_size c = c.from_residual-in_err-max_packet_size.ensures ∙ not_numbered 4 (behind-endpoint (goal.at.returns-in_err-max_packet_size c).In_ok-endpoint) c.in_err-max_packet_size.ensures.value

behind-max_packet_size : (c : In_ok-max_packet_size) → Left c.args.line.now 4 c.in_ok-incoming.incoming (c.in_ok-max_packet_size.max_packet_size ∷ c.in_ok-endpoint.endpoint ∷ []) c.number-2.new.self
behind-max_packet_size c = numbered_on 4 (behind-endpoint (goal.at.In_ok-max_packet_size c).In_ok-endpoint) c.in_ok-max_packet_size.ensures.value c.in_ok-max_packet_size.ensures.others

pub returns-in_err-own : goal.returns-in_err-own
returns-in_err-own c = c.from_residual-in_err-own.ensures ∙ not_numbered 3 (behind-max_packet_size (goal.at.returns-in_err-own c).In_ok-max_packet_size) c.in_err-own.ensures.value

behind-own : (c : In_ok-own) → Left c.args.line.now 3 c.in_ok-incoming.incoming (c.in_ok-own.own ∷ c.in_ok-max_packet_size.max_packet_size ∷ c.in_ok-endpoint.endpoint ∷ []) c.number-3.new.self
behind-own c = numbered_on 3 (behind-max_packet_size (goal.at.In_ok-own c).In_ok-max_packet_size) c.in_ok-own.ensures.value c.in_ok-own.ensures.others

pub returns-in_err-address : goal.returns-in_err-address
returns-in_err-address c = c.from_residual-in_err-address.ensures ∙ not_numbered 2 (behind-own (goal.at.returns-in_err-address c).In_ok-own) c.in_err-address.ensures.value

behind-address : (c : In_ok-address) → Left c.args.line.now 2 c.in_ok-incoming.incoming (c.in_ok-address.address ∷ c.in_ok-own.own ∷ c.in_ok-max_packet_size.max_packet_size ∷ c.in_ok-endpoint.endpoint ∷ []) c.number-4.new.self
behind-address c = numbered_on 2 (behind-own (goal.at.In_ok-address c).In_ok-own) c.in_ok-address.ensures.value c.in_ok-address.ensures.others

pub returns-in_err-length : goal.returns-in_err-length
returns-in_err-length c = c.from_residual-in_err-length.ensures ∙ not_numbered 1 (behind-address (goal.at.returns-in_err-length c).In_ok-address) c.in_err-length.ensures.value

behind-length : (c : In_ok-length) → Left c.args.line.now 1 c.in_ok-incoming.incoming (c.in_ok-length.length ∷ c.in_ok-address.address ∷ c.in_ok-own.own ∷ c.in_ok-max_packet_size.max_packet_size ∷ c.in_ok-endpoint.endpoint ∷ []) c.number-5.new.self
behind-length c = numbered_on 1 (behind-address (goal.at.In_ok-length c).In_ok-address) c.in_ok-length.ensures.value c.in_ok-length.ensures.others

pub returns-in_err-number : goal.returns-in_err-number
returns-in_err-number c = c.from_residual-in_err-number.ensures ∙ not_numbered 0 (behind-length (goal.at.returns-in_err-number c).In_ok-length) c.in_err-number.ensures.value

behind-number : (c : In_ok-number) → Left c.args.line.now 0 c.in_ok-incoming.incoming (c.in_ok-number.field-0 ∷ c.in_ok-length.length ∷ c.in_ok-address.address ∷ c.in_ok-own.own ∷ c.in_ok-max_packet_size.max_packet_size ∷ c.in_ok-endpoint.endpoint ∷ []) c.number-6.new.self
behind-number c = numbered_on 0 (behind-length (goal.at.In_ok-number c).In_ok-length) c.in_ok-number.ensures.value c.in_ok-number.ensures.others

pub returns-in_err-zlp : goal.returns-in_err-zlp
returns-in_err-zlp c = c.from_residual-in_err-zlp.ensures ∙ not_flagged (behind-number (goal.at.returns-in_err-zlp c).In_ok-number) c.in_err-zlp.ensures

pub returns-then-not-is_empty : goal.returns-then-not-is_empty
returns-then-not-is_empty c =
    more_behind (behind-number (goal.at.returns-then-not-is_empty c).In_ok-number) c.in_ok-zlp.ensures (sym c.is_empty.ensures ∙ c.if-not-is_empty.true)

pub returns : goal.returns
returns c = read_to_end (behind-number (goal.at.returns c).In_ok-number) c.in_ok-zlp.ensures (sym c.is_empty.ensures ∙ c.if-not-is_empty.false)
