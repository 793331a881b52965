-- What a call does to one direction of a data endpoint, by what it is to it: the slot x, the slot y that it leaves, and the chains
-- that it records there.
-- Assumes nothing.
use Rattle.std.specs.Prelude.{ℕ, Bool, true, false, not, cond, ◌&&◌, ◌≡◌, Option, Some, None, Err}
use Rattle.state.specs.declared.Slot.{Slot}
use Rattle.state.specs.declared.Refusal.TheVariants.{Disabled, OutOfTurn, UnfitBuffer}
use Rattle.state.specs.Setters.{limit_of}
use Rattle.state_slots.specs.Slots.{idleb, busyb, slot_of}
use Rattle.state_laws.specs.SlotLaws.{Cut}
use Rattle.transfer_chain.specs.declared.Chain.{Chain}
use Rattle.transfer_chain.specs.Chains.{next_chain, queued_slot}
use Rattle.transfer_piece.specs.declared.Piece.{Piece}
use Rattle.transfer_piece.specs.Piece.{begun_slot}
use Rattle.transfer_step.specs.Step.{report_step, slot_after}
use Rattle.transfer_take.specs.Take.{take_answer, take_leaves}
use Rattle.history_ideal.specs.Ideal.{Report}
use Rattle.history_follows.specs.Follows.{Fits}
use Rattle.history_ops.specs.Recorded.{Recorded, none, recorded, noted, follower}
use Rattle.usbss.specs.Call.{World, Call}
use Rattle.usbss.specs.Step.{step}
use Rattle.history_rows.specs.Memory.{memory_of}
use Rattle.history_effect.specs.Seen.{Told, Seen, Begins, Reports, Asks, Early, Cuts, Nothing, seen}

-- the slot's transfer is one of the piece p
abbrev pub Moving : Slot → Piece → Type 0
Moving x p = (x.transfer.address ≡ p.address) × (x.transfer.length ≡ p.length)

-- an accepted begin: the slot was idle and takes the piece on, and its first chain is recorded
pub record Begun (limit : ℕ) (incoming : Bool) (x y : Slot) (chains : Recorded) (p : Piece) : Type 0 where
  pub idle : idleb x.phase ≡ true
  pub fits : Fits incoming x p
  pub slot : y ≡ queued_slot limit incoming (begun_slot x p)
  pub chain : chains ≡ noted incoming (next_chain limit incoming (begun_slot x p))

abbrev pub follows : Bool → Option Chain → Recorded
follows incoming None = none
follows incoming (Some k) = noted incoming k

-- a report is counted, and the chain that follows it is recorded
pub record Reported (limit : ℕ) (incoming : Bool) (x y : Slot) (chains : Recorded) (r : Report) : Type 0 where
  pub slot : y ≡ slot_after limit incoming x (report_step limit incoming r.packets r.last x)
  pub chain : chains ≡ follows incoming (follower limit incoming (report_step limit incoming r.packets r.last x))

-- a take of a slot without a transfer, and of one with
pub record Taken (x y : Slot) (chains : Recorded) (unfit : Bool) (most : Piece → ℕ) (busy : Bool) (Says : Piece → Told → Type 0) : Type 0 where
  pub silent : chains ≡ none
  pub nothing : idleb x.phase ≡ true → ((p : Piece) → Says p (Err Disabled)) × (y ≡ x)
  pub something : idleb x.phase ≡ false
      → ((p : Piece) → Moving x p → Says p (cond unfit (Err UnfitBuffer) (take_answer (most p) x)))
      × ((y ≡ cond unfit x (take_leaves x)) × (busy ≡ (not unfit && busyb x.phase)))

-- a take out of turn
pub record TooEarly (x y : Slot) (chains : Recorded) (Says : Piece → Told → Type 0) : Type 0 where
  pub silent : chains ≡ none
  pub says : (p : Piece) → Says p (Err OutOfTurn)
  pub same : y ≡ x

pub record Cutting (x y : Slot) (chains : Recorded) : Type 0 where
  pub silent : chains ≡ none
  pub cut : Cut x y

pub record Passing (x y : Slot) (chains : Recorded) : Type 0 where
  pub silent : chains ≡ none
  pub same : y ≡ x

unfoldable pub EffectAs : ℕ → Bool → Slot → Slot → Recorded → Seen → Type 0
EffectAs limit incoming x y chains (Begins p) = Begun limit incoming x y chains p
EffectAs limit incoming x y chains (Reports r) = Reported limit incoming x y chains r
EffectAs limit incoming x y chains (Asks unfit most busy Says) = Taken x y chains unfit most busy Says
EffectAs limit incoming x y chains (Early Says) = TooEarly x y chains Says
EffectAs limit incoming x y chains Cuts = Cutting x y chains
EffectAs limit incoming x y chains Nothing = Passing x y chains

-- of a call in a world, where what is remembered is what the state has
abbrev pub Effect : ℕ → Bool → World → Call → Type 0
Effect e incoming w c =
    EffectAs (limit_of w.state) incoming (slot_of w.state e incoming) (slot_of (step w c).state e incoming) (recorded incoming e (step w c).ops)
    (seen e incoming (memory_of w.state) w c (step w c))
