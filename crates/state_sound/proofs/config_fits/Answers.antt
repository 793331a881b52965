-- `config_fits`: out at the first clauses that are not met.
use Rattle.std.proofs.Common.{◌≡◌, Bool, true, false, ◌&&◌, Some, sym, ◌∙◌, eq-eqb, ne_eqb}
use Rattle.state_sound.specs.Clauses.{whole_packets, packet_size}
use Rattle.state_sound.specs.Sound.{configb}
use Rattle.state_sound.proofs.SoundLaws.{config_last, config_other}
use Rattle.state_sound.proofs.config_fits.Goals as goal
use Rattle.state_sound.proofs.config_fits.Goals.{After-is_aligned-even}

-- the slot's own number, and what the other clauses come to
met : (c : After-is_aligned-even) (t : Bool) → (packet_size c.args.config.max_packet_size && (c.in_ram-inside.result && c.is_aligned-even.result)) ≡ t
    → (t && whole_packets c.args.config.buffer.size c.args.config.max_packet_size) ≡ configb c.args.i (Some c.args.config)
met c t h =
    config_last c.args.i c.args.config c.in_ram-inside.result c.is_aligned-even.result t (eq-eqb _ _ (sym c.slot_number.ensures ∙ c.if-slot_number-i.false)) c.in_ram-inside.ensures c.is_aligned-even.ensures h

pub returns-then-m-inside : goal.returns-then-m-inside
returns-then-m-inside c = c.whole_packets.ensures ∙ met (goal.at.returns-then-m-inside c).After-is_aligned-even true c.if-m-inside.true

pub returns : goal.returns
returns c = met (goal.at.returns c).After-is_aligned-even false c.if-m-inside.false

pub returns-then-slot_number-i : goal.returns-then-slot_number-i
returns-then-slot_number-i c = config_other _ _ (rw (sym c.slot_number.ensures) (ne_eqb _ _ c.if-slot_number-i.true))
