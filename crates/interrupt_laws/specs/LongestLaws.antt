-- Nine readings are reached: every flag of the link is set but the timeout, and behind them OUT's chain is reported.
-- Assumes nothing.
use Rattle.std.specs.Prelude.{true, false, List, [], ◌∷◌, ◌≡◌, refl, length}
use Rattle.base.specs.Each.{every}
use Rattle.ops.specs.Ops.{list_numbers}
use Rattle.state.specs.declared.LinkFlags.{LinkFlags}
use Rattle.state.specs.declared.LinkState.TheVariants as link
use Rattle.state.specs.declared.LinkStatus.{LinkStatus}
use Rattle.state.specs.declared.TransferStatus.{TransferStatus}
use Rattle.state.specs.declared.Reading.{Reading}
use Rattle.state.specs.declared.Reading.TheVariants as reading
use Rattle.state.specs.declared.State.{State}
use Rattle.state.specs.Setters.{with_power}
use Rattle.state_sound.specs.Sound.{soundb}
use Rattle.state_sound.proofs.FaultLaws.{running, no_events}
use Rattle.state_call.specs.Outcome.{or_else}
use Rattle.interrupt_asks.specs.Settled.{settled}
use Rattle.interrupt_transfer.specs.Transfers.{status_turn}
use Rattle.interrupt_readings.specs.Heard.{heard_link}
use Rattle.interrupt_followers.specs.Followers.{heard_transfer}
use Rattle.interrupt_begin.specs.Begin.{interrupt_call}
use Rattle.interrupt.specs.Interrupt.{answer_call}
use Rattle.interrupt_laws.specs.Conversation.{Given, AllAccepted}

abbrev given : Reading → Given
given r = record { room = list_numbers; reading = r }

abbrev flags : LinkFlags
flags =
    record {
      link_if_tx_lmp = true;
      link_if_rx_lmp = true;
      link_if_rx_lmp_tout = false;
      link_if_state_chg = true;
      link_if_warm_rst = true;
      link_if_term_pres = true;
      link_if_rx_set_fc = true;
    }

abbrev up : LinkStatus
up = record { link_state = link.U0; link_rx_term_pres = true; link_rx_warm_rst = false }

abbrev out : TransferStatus
out =
    record {
      udif_setup = false;
      udif_status = false;
      uif_transfer = true;
      ep_id = 1;
      ep_dir = false;
      uif_itp = false;
      uif_rx_ping = false;
      uif_fifo_txov = false;
      uif_fifo_rxov = false;
    }

-- each of them but the three of endpoint 0
abbrev nine : List Given
nine =
    given (reading.LinkFlags flags)
    ∷ given (reading.LinkStatus up)
    ∷ given (reading.PortCapability true)
    ∷ given (reading.LinkStatus up)
    ∷ given (reading.MessageWord 128)
    ∷ given (reading.LinkStatus up)
    ∷ given (reading.TransferStatus out)
    ∷ given (reading.ChainPackets 1)
    ∷ given (reading.LastLength 1024)
    ∷ []

-- silicon of revision 3 reports Set Link Function by a flag
abbrev third : State
third = with_power running (record { memory = running.ep0_address; on = true; revision = 3 })

pub nine_reached : (length nine ≡ 9) × AllAccepted (interrupt_call list_numbers third no_events).state (interrupt_call list_numbers third no_events).events nine
unfolding interrupt_call answer_call or_else soundb every settled heard_link heard_transfer status_turn
nine_reached = (refl, (refl, (refl, (refl, (refl, (refl, (refl, (refl, (refl, (refl, tt))))))))))
