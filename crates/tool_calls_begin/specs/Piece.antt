-- What a line of `begin` asks for (docs/REPLAY.md, "Transfers").
-- Assumes nothing.
use Rattle.std.specs.Prelude.{ℕ, List}
use Rattle.transfer_piece.specs.declared.Piece.{Piece}
use Rattle.tool_scripts.specs.Script.{number_at}
use Rattle.tool_arguments.specs.Arguments.{flag_at}

abbrev pub piece_of : List ℕ → Piece
piece_of line = record { address = number_at line 2; length = number_at line 3; zlp = flag_at line 4 }
