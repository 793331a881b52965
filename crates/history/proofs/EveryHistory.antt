-- The theorem about every list of calls.
-- Assumes nothing.
use Rattle.std.specs.Prelude.{List}
use Rattle.std.proofs.Common.{ap, ◌∙◌}
use Rattle.usbss.specs.Call.{World, Call}
use Rattle.history_rows.specs.Rows.{rows}
use Rattle.history_rows.specs.Memory.{Sound}
use Rattle.history_rows.proofs.RowsLaws.{rows_split}
use Rattle.history_memory.proofs.SoundLaws.{sound_final}
use Rattle.history_memory.proofs.AsksLaws.{every_asks}
use Rattle.history_runs.proofs.HistoryLaws.{runs_well}
use Rattle.history_tally.proofs.TallyLaws.{tally_runs, balanced}
use Rattle.history_address.proofs.AddressLaws.{every_address}
use Rattle.history.specs.Statement.{EveryHistory}

pub every_history : (w : World) → Sound w → (cs : List Call) → EveryHistory w cs
every_history w h cs =
    record {
      list = λ before after split. ap (rows w) split ∙ rows_split w before after;
      runs = runs_well w h cs;
      tallies = λ e incoming d. tally_runs e incoming d w h cs;
      balances = λ e incoming d. balanced e incoming d w h cs;
      address = every_address w cs;
      asks = every_asks w cs;
      sound = sound_final w h cs;
    }
