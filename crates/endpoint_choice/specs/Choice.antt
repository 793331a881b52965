-- Which piece a send or a receive moves next (reference: `send`, `receive` and their callers in endpoint.rs; document 01,
-- "endpoint.rs").
-- Assumes nothing.
use Rattle.std.specs.Prelude.{ℕ, ◌+◌, ◌*◌, ◌-◌, ◌/◌, min, max, Bool, false, ◌&&◌, ◌||◌, not, cond, eqb, leb, ltb}
use Rattle.base.specs.Ceil.{div_ceil}
use Rattle.state.specs.declared.Slot.{Slot}
use Rattle.state_slots.specs.Slots.{configured, slot_size, own_buffer}
use Rattle.state_sound.specs.Clauses.{in_ram, aligned, multiple}
use Rattle.transfer_piece.specs.declared.Piece.{Piece}
use Rattle.transfer_piece.specs.Piece.{piece}
use Rattle.endpoint_choice.specs.declared.MoveRequest.{MoveRequest}
use Rattle.endpoint_choice.specs.declared.Asked.{Asked}
use Rattle.endpoint_choice.specs.declared.Choice.{Choice}

-- What a caller asks for is `Asked` of the code: one packet (`write`, `read`) or a transfer (`write_transfer`,
-- `read_transfer`); whether an empty packet is to close it; its bytes, by their address and how many they are; and how
-- many of them the pieces before have moved.
abbrev pub asked : Bool → Bool → ℕ → ℕ → ℕ → Asked
asked single zlp address length position = record { single = single; needs_zlp = zlp; address = address; length = length; position = position }

-- by a request, where so many bytes are lent
abbrev pub asked_of : MoveRequest → ℕ → Asked
asked_of r length = asked r.single r.needs_zlp r.address length r.position

-- a position above the length is taken as the length
abbrev pub place : Asked → ℕ
place k = min k.position k.length

abbrev pub rest : Asked → ℕ
rest k = k.length - place k

-- where the caller stands after n bytes more
abbrev pub place_after : Asked → ℕ → ℕ
place_after k n = min k.length (place k + n)

-- the controller reaches bytes that aren't none, stand at a multiple of 4 and lie in RAM
abbrev pub reaches : ℕ → ℕ → Bool
reaches address length = (ltb 0 length && aligned address) && in_ram address length

-- `write` of nothing sends one empty packet; `write_transfer` closes by one where it is asked to and the bytes are whole
-- packets
abbrev pub closes : Slot → Asked → Bool
closes x k = cond k.single (eqb k.length 0) (k.needs_zlp && multiple k.length (slot_size x))

-- refusal 9: `write` above a packet. Without a configuration there is no packet size.
abbrev pub longer : Slot → Asked → Bool
longer x k = (k.single && configured x.config) && ltb (slot_size x) k.length

-- refusal 8: a lent own buffer of another address or length than the state's
abbrev pub own_unfit : Slot → ℕ → ℕ → Bool
own_unfit x address size = not (eqb address (own_buffer x).address && eqb size (own_buffer x).size)

-- A send goes straight from the caller's bytes if the controller reaches all of them.
abbrev pub send_direct : Asked → Bool
send_direct k = ltb 0 (rest k) && reaches k.address k.length

-- Then what is left is one transfer, with the closing packet. Else it is copied, at most an own buffer at a time, and the
-- closing packet is a transfer of its own.
abbrev pub send_piece : Slot → Asked → Piece
send_piece x k =
    cond (send_direct k) (piece (k.address + place k) (rest k) (closes x k))
    (piece (own_buffer x).address (min (own_buffer x).size (rest k)) false)

-- a transfer is begun while bytes are left, and for the closing packet of what was copied
abbrev pub send_begins : Slot → Asked → Bool
send_begins x k = ltb 0 (rest k) || (closes x k && not (reaches k.address k.length))

-- A receive goes straight to what is left of the caller's bytes if the controller reaches that and it has room for a packet,
abbrev pub receive_direct : Slot → Asked → Bool
receive_direct x k = reaches (k.address + place k) (rest k) && (ltb 0 (slot_size x) && leb (slot_size x) (rest k))

-- and then to as many packets as there is whole room for. Else the own buffer takes as many packets as what is left needs,
-- one at least and no more than it holds. One packet is one packet.
abbrev pub own_room : ℕ → ℕ → ℕ → ℕ
own_room size m left = min size (max m (div_ceil left m * m))

abbrev pub receive_room : Slot → Asked → ℕ
receive_room x k =
    cond k.single (slot_size x)
    (cond (receive_direct x k) (rest k / slot_size x * slot_size x) (own_room (own_buffer x).size (slot_size x) (rest k)))

abbrev pub receive_piece : Slot → Asked → Piece
receive_piece x k = piece (cond (receive_direct x k) (k.address + place k) (own_buffer x).address) (receive_room x k) false

-- a piece, and whether it is a part of the caller's bytes
abbrev pub choice : Piece → Bool → Choice
choice p direct = record { piece = p; direct = direct }

-- whether a transfer goes by way of the own buffer is told by its address
abbrev pub own_transfer : Slot → Bool
own_transfer x = eqb x.transfer.address (own_buffer x).address

-- no transfer has more bytes
abbrev pub any_length : ℕ
any_length = 4294967295
