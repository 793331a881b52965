-- The state before anything was done.
-- Assumes nothing.
use Rattle.std.specs.Prelude.{false, ℕ, replicate, get_or, Option, None}
use Rattle.state.specs.declared.Phase.TheVariants.{Idle}
use Rattle.state.specs.declared.LinkState.TheVariants.{U0}
use Rattle.state.specs.declared.EndpointConfig.{EndpointConfig}
use Rattle.state.specs.declared.Slot.{Slot}
use Rattle.state.specs.declared.Awaited.{Awaited}
use Rattle.state.specs.declared.State.{State}
use Rattle.state.specs.declared.Driver.{Driver}

abbrev pub fresh_slot : Slot
fresh_slot =
    record {
      enabled = false;
      stalled = false;
      phase = Idle;
      config = None;
      transfer = record { address = 0; length = 0; progress = 0; zlp = false };
      tally = record { begun = 0; finished = 0; cut = 0; bytes = 0 };
    }

abbrev pub nothing_awaited : Awaited
nothing_awaited =
    record {
      next = None;
      flags =
          record {
            link_if_tx_lmp = false;
            link_if_rx_lmp = false;
            link_if_rx_lmp_tout = false;
            link_if_state_chg = false;
            link_if_warm_rst = false;
            link_if_term_pres = false;
            link_if_rx_set_fc = false;
          };
      link_state = U0;
      endpoint = 0;
      packets = 0;
    }

-- sixteen fresh slots, unpowered, EP0 without memory, nothing pending
abbrev pub fresh_state : State
fresh_state =
    record {
      endpoints = replicate 16 fresh_slot;
      ep0_address = 0;
      powered = false;
      suspended = false;
      wake = 0;
      setup = None;
      control_generation = 0;
      in_last = false;
      tx_seq = 0;
      address = None;
      revision = 0;
      reset_seen = false;
      low_power = false;
      awaited = nothing_awaited;
    }

-- the slot with a number
abbrev pub slot_at : State → ℕ → Slot
slot_at s i = get_or s.endpoints i fresh_slot

-- what is allocated for it
abbrev pub allocation_at : Driver → ℕ → Option EndpointConfig
allocation_at d i = get_or d.endpoints i None
