-- `whole_packets`: one packet, one burst, or by division.
use Rattle.state_sound.proofs.SoundLaws.{whole_packet}
use Rattle.state_sound.proofs.whole_packets.Goals as goal

pub returns-then-size-n : goal.returns-then-size-n
returns-then-size-n c = let a = c.args in whole_packet a.size a.m c.if-size-n.true
