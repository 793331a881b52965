-- Readings that are about no slot, as the last arm of a `match` knows them.
-- Assumes nothing.
use Rattle.std.specs.Prelude.{ℕ, [], ◌∷◌, ◌≡◌, refl}
use types.Run.{OneOf, miss}
use denote.Enum.Declared as D
use Rattle.state.specs.declared.Reading.{Reading}
use Rattle.state.specs.declared.Reading.TheVariants as reading
use Rattle.state.specs.contracts.Reading as R
use Rattle.interrupt_hear.specs.Hear.{heard_slot}

pub no_slot_heard : (e : ℕ) (r : Reading) → OneOf (0 ∷ 1 ∷ 2 ∷ 3 ∷ 5 ∷ 7 ∷ 8 ∷ []) (D.tag_of R.the_type r) → heard_slot e r ≡ 1
no_slot_heard e (reading.LinkFlags f) n = refl
no_slot_heard e (reading.LinkStatus r) n = refl
no_slot_heard e (reading.PortCapability b) n = refl
no_slot_heard e (reading.MessageWord w) n = refl
no_slot_heard e (reading.TransferStatus t) n = absurd (miss (0 ∷ 1 ∷ 2 ∷ 3 ∷ 5 ∷ 7 ∷ 8 ∷ []) 4 tt n)
no_slot_heard e (reading.SetupBytes b) n = refl
no_slot_heard e (reading.Ep0Length l) n = absurd (miss (0 ∷ 1 ∷ 2 ∷ 3 ∷ 5 ∷ 7 ∷ 8 ∷ []) 6 tt n)
no_slot_heard e (reading.Ep0Sequence q) n = refl
no_slot_heard e (reading.ChainPackets p) n = refl
no_slot_heard e (reading.LastLength l) n = absurd (miss (0 ∷ 1 ∷ 2 ∷ 3 ∷ 5 ∷ 7 ∷ 8 ∷ []) 9 tt n)
