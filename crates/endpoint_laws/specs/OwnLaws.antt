-- The own buffer of a configuration that is sound.
-- Assumes nothing.
use Rattle.std.specs.Prelude.{ℕ, ◌≡◌, true, ◌&&◌, Some, eqb}
use Rattle.base.specs.EachLaws.{and_left, and_right}
use Rattle.state.specs.declared.EndpointConfig.{EndpointConfig}
use Rattle.state_slots.specs.Slots.{slot_number}
use Rattle.state_sound.specs.Clauses.{in_ram, aligned, packet_size, whole_packets}
use Rattle.state_sound.specs.Sound.{configb}

-- it has room for whole packets
pub own_whole : (i : ℕ) (c : EndpointConfig) → configb i (Some c) ≡ true → whole_packets c.buffer.size c.max_packet_size ≡ true
unfolding configb
own_whole i c h =
    let named = eqb (slot_number c.endpoint.index c.endpoint.incoming) i in
    let sized = packet_size c.max_packet_size in
    let inside = in_ram c.buffer.address c.buffer.size in
    let even = aligned c.buffer.address in
    let whole = whole_packets c.buffer.size c.max_packet_size in
    and_left whole true (and_right even (whole && true) (and_right inside (even && (whole && true)) (and_right sized (inside && (even && (whole && true))) (and_right named (sized && (inside && (even && (whole && true)))) h))))
