-- What a call leaves that writes nothing, and what is awaited first.
-- Assumes nothing.
use Rattle.std.specs.Prelude.{ℕ, Bool, true, false, cond, List, [], ◌≡◌, refl}
use Rattle.ops.specs.Wrote.{Wrote}
use Rattle.state.specs.Fresh.{nothing_awaited}
use Rattle.interrupt_begin.specs.Begin.{first_awaited}

pub unwritten : {l l' : List ℕ} {end : ℕ} → Wrote l 0 [] end l' → Wrote l 0 [] 0 l'
unwritten w = record { end = refl; list = w.list }

pub first_left : (powered : Bool) → first_awaited powered ≡ cond powered (first_awaited powered) nothing_awaited
first_left true = refl
first_left false = refl
