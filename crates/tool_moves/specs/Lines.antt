-- What a line of `move` or `next` asks for (docs/REPLAY.md, "Sends and receives").
-- Assumes nothing.
use Rattle.std.specs.Prelude.{ℕ, min, List, nat_lt}
use Rattle.tool_scripts.specs.Script.{number_at, held_to}
use Rattle.tool_moves.specs.declared.asked.Asked.{Asked}

abbrev pub asked_by : List ℕ → Asked
asked_by line = record {
  endpoint = record { index = held_to 255 (number_at line 1); incoming = nat_lt 0 (number_at line 0) };
  single = nat_lt 0 (number_at line 2);
  address = number_at line 3;
  length = number_at line 4;
  flag = nat_lt 0 (number_at line 5);
  pattern = number_at line 6;
  position = number_at line 7;
}

-- the same from another position on
abbrev pub from : Asked → ℕ → Asked
from k position = record k { position = min position 65536 }
