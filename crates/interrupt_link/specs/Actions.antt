-- What an interrupt does for the link (reference: `link_irq` of device.rs): a change of the link's state, terminations that
-- are gone, a message, a warm reset. `LinkEffect` is what it may change beside the registers: whether the bus is reset, the
-- link's three flags, and the pending events.
-- Assumes nothing.
use Rattle.std.specs.Prelude.{ℕ, ◌/◌, ◌%◌, ◌^◌, Bool, true, false, not, ◌&&◌, ◌||◌, cond, List, [], ◌++◌, eqb, ltb}
use Rattle.ops.specs.Numbers as number
use Rattle.ops.specs.Ops.{Op}
use Rattle.state.specs.declared.LinkState.{LinkState}
use Rattle.state.specs.declared.LinkState.TheVariants as link
use Rattle.state.specs.declared.Events.{Events}
use Rattle.state_events.specs.declared.Event.{Event}
use Rattle.state_events.specs.declared.Event.TheVariants.{Reset, Suspend, Resume}
use Rattle.state_events.specs.Events.{raise_event}
use Rattle.regs_link.specs.Link.{phy_write_ops, link_power_allow_ops, link_ack_ops, tx_port_cap_ops, tx_port_cfg_res_ops, tx_cap_vld_ops, go_disabled_ops, hot_reset_done_ops, u2_timer_ops, delay_ops}
use Rattle.regs_device.specs.Device.{bus_reset_ops}
use Rattle.interrupt_link.specs.declared.LinkEffect.{LinkEffect}

abbrev pub raise_if : Bool → Events → Event → Events
raise_if due v e = cond due (raise_event v e) v

-- ---- by the state that the link has come to

-- RXDET: the host is gone. The bus is reset, and where a reset was seen before, that is a suspend.
abbrev pub rx_detected : LinkEffect → LinkEffect
rx_detected f = record { resets = true; suspended = false; reset_seen = false; low_power = false; events = raise_if f.reset_seen f.events Suspend }

-- a hot or warm reset from the host
abbrev pub link_reset : LinkEffect → LinkEffect
link_reset f = record { resets = true; suspended = false; reset_seen = true; low_power = false; events = raise_event f.events Reset }

-- RECOVERY out of low power: the PHY is set for a link that is awake
abbrev pub awake : LinkEffect → LinkEffect
awake f = record f { low_power = false }

abbrev pub recovered : LinkEffect → LinkEffect
recovered f = cond f.low_power (awake f) f

abbrev pub recovered_ops : Bool → List Op
recovered_ops low = cond low (delay_ops 4000 ++ phy_write_ops 0x12 0x67c8) []

-- U0: the first is the only sign that link training finished; a later one ends a suspend
abbrev pub trained : LinkEffect → LinkEffect
trained f = record f { reset_seen = true; events = raise_event f.events Reset }

abbrev pub resumed : LinkEffect → LinkEffect
resumed f = record f { suspended = false; events = raise_event f.events Resume }

abbrev pub came_up : LinkEffect → LinkEffect
came_up f = cond f.reset_seen (cond f.suspended (resumed f) f) (trained f)

-- U1, U2 and U3: low power; U3 alone suspends, once, and only after a reset was seen
abbrev pub suspends : LinkEffect → Bool
suspends f = not f.suspended && f.reset_seen

abbrev pub asleep : Bool → LinkEffect → LinkEffect
asleep due f =
    record {
      resets = f.resets;
      suspended = f.suspended || due;
      reset_seen = f.reset_seen;
      low_power = true;
      events = raise_if due f.events Suspend;
    }

abbrev pub link_change : LinkState → LinkEffect → LinkEffect
link_change link.U0 f = came_up f
link_change link.U1 f = asleep false f
link_change link.U2 f = asleep false f
link_change link.U3 f = asleep (suspends f) f
link_change link.DISABLED f = f
link_change link.RXDET f = rx_detected f
link_change link.RECOVERY f = recovered f
link_change link.HOTRST f = link_reset f
link_change link.OTHER f = f

-- ep0 is where endpoint 0's memory begins, low whether the PHY is set for a link that sleeps
abbrev pub link_change_ops : LinkState → ℕ → Bool → List Op
link_change_ops link.U0 ep0 low = []
link_change_ops link.U1 ep0 low = phy_write_ops 0x12 0x65c8
link_change_ops link.U2 ep0 low = phy_write_ops 0x12 0x65c8
link_change_ops link.U3 ep0 low = phy_write_ops 0x12 0x65c8
link_change_ops link.DISABLED ep0 low = go_disabled_ops false
link_change_ops link.RXDET ep0 low = bus_reset_ops ep0
link_change_ops link.RECOVERY ep0 low = recovered_ops low
link_change_ops link.HOTRST ep0 low = bus_reset_ops ep0 ++ hot_reset_done_ops
link_change_ops link.OTHER ep0 low = []

-- only where the flag says that the state has changed; the flag is acknowledged first
abbrev pub changed : Bool → LinkState → LinkEffect → LinkEffect
changed flag l f = cond flag (link_change l f) f

abbrev pub changed_ops : Bool → LinkState → ℕ → Bool → List Op
changed_ops flag l ep0 low = cond flag (link_ack_ops number.link_if_state_chg ++ link_change_ops l ep0 low) []

-- ---- terminations, messages, warm reset

-- terminations that are gone: a suspend where a reset was seen; the link's own flag stays
abbrev pub term_gone : LinkEffect → LinkEffect
term_gone f =
    record {
      resets = f.resets;
      suspended = f.suspended;
      reset_seen = false;
      low_power = f.low_power;
      events = raise_if f.reset_seen f.events Suspend;
    }

abbrev pub term_present : Bool → LinkEffect → LinkEffect
term_present present f = cond present f (term_gone f)

-- the subtype of a link management packet, bits 8 to 5 of its word 0 (USB 3.2, 8.4.1)
abbrev pub lmp_subtype : ℕ → ℕ
lmp_subtype word = word / 2 ^ 5 % 2 ^ 4

-- The Rust's reading, which doesn't look at the type field. Port Capability, Port Configuration, its response, U2
-- Inactivity Timeout (bits 16 to 9), and Set Link Function (bit 10), which silicon from revision 3 on reports by a flag.
abbrev pub message_ops : ℕ → ℕ → List Op
message_ops revision word =
    cond (eqb (lmp_subtype word) 4) tx_port_cap_ops
    (cond (eqb (lmp_subtype word) 5) tx_port_cfg_res_ops
    (cond (eqb (lmp_subtype word) 6) tx_cap_vld_ops
    (cond (eqb (lmp_subtype word) 2) (u2_timer_ops (word / 2 ^ 9 % 2 ^ 8))
    (cond (eqb (lmp_subtype word) 1 && ltb revision 3) (link_power_allow_ops (eqb (word / 2 ^ 10 % 2) 1)) []))))

-- a warm reset holds the link down for 16 cycles
abbrev pub warmed : Bool → LinkEffect → LinkEffect
warmed warm f = cond warm (link_reset f) f

abbrev pub warmed_ops : Bool → ℕ → List Op
warmed_ops warm ep0 = cond warm (bus_reset_ops ep0 ++ (go_disabled_ops true ++ (delay_ops 16 ++ go_disabled_ops false))) []
