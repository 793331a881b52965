-- What a slot has of its ledger: the tally, and what is in hand.
-- Assumes nothing.
use Rattle.std.specs.Prelude.{ℕ, Bool, true, false, not, ◌≡◌, List}
use Rattle.state.specs.declared.Slot.{Slot}
use Rattle.state_slots.specs.Slots.{idleb}
use Rattle.transfer_piece.specs.declared.Piece.{Piece}
use Rattle.history_ideal.specs.Ideal.{Report, Ideal}
use Rattle.history_follows.specs.Follows.{Fits, slot_ideal, slot_by}
use Rattle.history_tally.specs.Ledger.{Hand, Empty, Listed, Older, Ledger, holds, moved}

-- the slot x has a transfer that should go as i has it, and that the own reports rs have moved on: of a piece that fits, from its begin on
pub record Goes (limit : ℕ) (incoming : Bool) (x : Slot) (i : Ideal) (rs : List Report) : Type 0 where
  pub begun_on : Slot
  pub piece : Piece
  pub fits : Fits incoming begun_on piece
  pub goes : i ≡ slot_ideal limit incoming begun_on piece
  pub slot : x ≡ slot_by limit incoming begun_on piece rs

-- the slot x has in hand what the ledger has
unfoldable pub Has : ℕ → Bool → Slot → Hand → Type 0
Has limit incoming x Empty = idleb x.phase ≡ true
Has limit incoming x (Listed i rs) = Goes limit incoming x i rs
Has limit incoming x (Older z) = (x ≡ z) × (idleb x.phase ≡ false)

-- the slot x has what the ledger l has
pub record Kept (limit : ℕ) (incoming : Bool) (x : Slot) (l : Ledger) : Type 0 where
  pub tally : x.tally ≡ l.tally
  pub hand : Has limit incoming x l.hand

-- what that amounts to: the tally, whether something is in hand, and how far that has come
pub record Tells (x : Slot) (l : Ledger) : Type 0 where
  pub tally : x.tally ≡ l.tally
  pub held : not (idleb x.phase) ≡ holds l.hand
  pub progress : holds l.hand ≡ true → x.transfer.progress ≡ moved l.hand
