-- What USB 3.2 says of link management packets and of the sequence numbers of data packets.
-- Assumes nothing.
use Rattle.std.specs.Prelude.{ℕ, suc, ◌+◌, ◌*◌, ◌/◌, ◌%◌, ◌<◌, Bool, cond, List, [], ◌≡◌, eqb, ltb}
use Rattle.ops.specs.Ops.{Op}
use Rattle.regs_link.specs.Link.{link_power_allow_ops, tx_port_cap_ops, tx_port_cfg_res_ops, tx_cap_vld_ops, u2_timer_ops}
use Rattle.control_in.specs.DataIn.{next_sequence}

-- ---- link management packets

-- word 0 (8.4.1): the type in bits 4 to 0, the subtype in bits 8 to 5, and from bit 9 on a field of the subtype's own
abbrev pub lmp_word0 : ℕ → ℕ → ℕ → ℕ
lmp_word0 kind subtype own = kind + 32 * subtype + 512 * own

-- the type of a link management packet (8.3.1.1)
abbrev pub lmp_type : ℕ
lmp_type = 0

-- the subtypes (8.4.1) that a device does something for; the others are reserved, or aren't for it
pub data LmpSubtype : Type 0 where
  set_link_function : LmpSubtype
  u2_inactivity_timeout : LmpSubtype
  port_capability : LmpSubtype
  port_configuration : LmpSubtype
  port_configuration_response : LmpSubtype
  not_for_us : LmpSubtype

abbrev pub subtype_of : ℕ → LmpSubtype
subtype_of n =
    cond (eqb n 1) set_link_function
    (cond (eqb n 2) u2_inactivity_timeout
    (cond (eqb n 4) port_capability
    (cond (eqb n 5) port_configuration
    (cond (eqb n 6) port_configuration_response
    not_for_us))))

-- Set Link Function (8.4.2): bit 1 of its field is Force_LinkPM_Accept
abbrev pub forces_accept : ℕ → Bool
forces_accept own = eqb (own / 2 % 2) 1

-- What each is answered with. The timeout (8.4.3) has eight bits. Silicon from revision 3 on reports Set Link Function by a
-- flag, so there its packet is passed over.
abbrev pub lmp_action : ℕ → LmpSubtype → ℕ → List Op
lmp_action revision set_link_function own = cond (ltb revision 3) (link_power_allow_ops (forces_accept own)) []
lmp_action revision u2_inactivity_timeout own = u2_timer_ops (own % 256)
lmp_action revision port_capability own = tx_port_cap_ops
lmp_action revision port_configuration own = tx_port_cfg_res_ops
lmp_action revision port_configuration_response own = tx_cap_vld_ops
lmp_action revision not_for_us own = []

-- ---- the sequence numbers of a stage's data packets

-- of packet number k, from 0 on (8.6): five bits, 0 first, then one more each time
abbrev pub packet_sequence : ℕ → ℕ
packet_sequence k = k % 32

-- n packets were reported, each with the number that it was sent under; `held k` is what the state holds before packet k
pub record ReportsBack (n : ℕ) (held : ℕ → ℕ) : Type 0 where
  pub back : (k : ℕ) → k < n → held (suc k) ≡ next_sequence (eqb k 0) (held k)
