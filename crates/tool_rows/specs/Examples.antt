-- The test of a table asks for its names alone, and that of its room for no more than their length.
-- Assumes nothing.
use Rattle.std.specs.Prelude.{ℕ, true, false, List, [], ◌∷◌, ◌≡◌}
use Rattle.std.specs.Borrow.{Bor}
use Rattle.tool_rows.specs.Bytes.{bytes}
use Rattle.tool_rows.specs.Rows.{right, roomy}

-- a name of 21 bytes, which has no room
pub long_right : (name : Bor (List ℕ)) → name.now ≡ bytes "a_name_of_21_letters_" → right ((0, "a_name_of_21_letters_") ∷ []) 0 (name ∷ []) ≡ true
long_right name h = rw h

pub long_roomless : (name : Bor (List ℕ)) → name.now ≡ bytes "a_name_of_21_letters_" → roomy (name ∷ []) ≡ false
long_roomless name h = rw h
