-- Beginning: the slot in its place is the call's, and its number is the paper's.
-- Assumes nothing.
use Rattle.std.specs.Prelude.{ℕ, ◌≡◌, refl, Bool, true, ◌||◌, not, [], ◌++◌, ltb, Ok, Err}
use Rattle.std.proofs.Common.{ap, set-set}
use Rattle.std.proofs.lemmas.Bool.{not-false}
use Rattle.ops.specs.Ops.{list_numbers}
use Rattle.state.specs.declared.Slot.{Slot}
use Rattle.state.specs.declared.State.{State}
use Rattle.state.specs.declared.Events.{Events}
use Rattle.state.specs.declared.Refusal.{Refusal}
use Rattle.state.specs.declared.Refusal.TheVariants.{ListTooShort, Unsound, OutOfTurn, TooLong, Disabled, InHand, UnfitBuffer}
use Rattle.state.specs.Fresh.{slot_at}
use Rattle.state.specs.Setters.{with_slot, limit_of}
use Rattle.state.specs.Awaiting.{awaitingb}
use Rattle.state.specs.Numbers.{check_number, refusal_number}
use Rattle.state.specs.Refusals.{refuse_if, first_refusal, Bound}
use Rattle.state.specs.RefusalsLaws.{none_due, not_due, bound}
use Rattle.state_slots.specs.Slots.{idleb, slot_number, slot_place, slot_of, slot_size, data_endpoint, ready}
use Rattle.state_slots.specs.SlotsLaws.{data_place}
use Rattle.state_slots.specs.Waking.{no_wakes}
use Rattle.state_sound.specs.Sound.{soundb}
use Rattle.state_call.specs.Turn.{admitted_of}
use Rattle.state_call.specs.Outcome.{or_else}
use Rattle.state_call.specs.OutcomeLaws.{passed, reached}
use Rattle.transfer_chain.specs.Chains.{queued_slot, queue_ops}
use Rattle.transfer_window.specs.Window.{windows_ops}
use Rattle.transfer_begin.specs.Begin.{begin_conditions, begun_at, begin_call}
use Rattle.transfer_piece.specs.declared.Piece.{Piece}
use Rattle.transfer_piece.specs.Piece.{piece_fits, begin_own, begun_slot}

module _ (room : ℕ) (s : State) (v : Events) (e : ℕ) (incoming : Bool) (p : Piece) (long unfit : Bool) where
  -- Each refusal is given exactly where it is the first that is due, and none where none is.
  pub begin_bound : Bound (begin_conditions room s v e incoming p long unfit) (first_refusal (begin_conditions room s v e incoming p long unfit))
  begin_bound = bound (begin_conditions room s v e incoming p long unfit)

  -- one that fits is of a data endpoint
  pub begin_reaches : first_refusal (begin_conditions room s v e incoming p long unfit) ≡ Ok tt → data_endpoint e ≡ true
  begin_reaches h =
      let own = begin_own s.powered e incoming p.address p.length long unfit (slot_of s e incoming) in
      let k = passed room (soundb s v) s.awaited.next own (none_due (begin_conditions room s v e incoming p long unfit) h) in
      not-false _ (not_due k.1.1.1).0

  -- the tests of what stands in the endpoint's place are those of its slot
  pub check_place : first_refusal (admitted_of room (soundb s v) s.awaited.next (begin_own s.powered e incoming p.address p.length long unfit (slot_at s (slot_place e incoming))))
      ≡ first_refusal (begin_conditions room s v e incoming p long unfit)
  check_place =
      ap (λ k. refuse_if (ltb room list_numbers) ListTooShort (refuse_if (not (soundb s v)) Unsound (refuse_if (awaitingb s.awaited.next) OutOfTurn k)))
      (reached s e incoming
      (λ x. refuse_if long TooLong
      (refuse_if (not (ready s.powered x)) Disabled
      (refuse_if (not (idleb x.phase)) InHand
      (refuse_if (unfit || not (piece_fits incoming (slot_size x) p.address p.length)) UnfitBuffer (Ok tt))))))

  -- a begin that is refused
  pub begin_refused : (r : Refusal) → first_refusal (begin_conditions room s v e incoming p long unfit) ≡ Err r
      → (Err r ≡ (begin_call room s v e incoming p long unfit).answer)
      × ((s ≡ (begin_call room s v e incoming p long unfit).state)
      × (([] ≡ (begin_call room s v e incoming p long unfit).ops)
      × ((no_wakes ≡ (begin_call room s v e incoming p long unfit).wakes)
      × (refusal_number r ≡ check_number (first_refusal (begin_conditions room s v e incoming p long unfit))))))
  unfolding begin_call or_else
  begin_refused r h = rw h (refl, (refl, (refl, (refl, refl))))

  -- one that isn't stores the slot in its place twice: as y, with the transfer in hand, for the windows; and as z, with
  -- its first chain handed over
  pub begin_stored : (i : ℕ) (y z : Slot) → first_refusal (begin_conditions room s v e incoming p long unfit) ≡ Ok tt
      → i ≡ slot_place e incoming → y ≡ begun_slot (slot_at s i) p → z ≡ queued_slot (limit_of s) incoming y
      → (Ok tt ≡ (begin_call room s v e incoming p long unfit).answer)
      × ((with_slot (with_slot s i y) i z ≡ (begin_call room s v e incoming p long unfit).state)
      × ((windows_ops (with_slot s i y) ++ queue_ops (limit_of s) e incoming y ≡ (begin_call room s v e incoming p long unfit).ops)
      × ((no_wakes ≡ (begin_call room s v e incoming p long unfit).wakes)
      × (0 ≡ check_number (first_refusal (begin_conditions room s v e incoming p long unfit))))))
  unfolding begin_call or_else
  begin_stored i y z h place first next =
      rw (next, first, place, h, data_place e incoming (begin_reaches h))
      (refl, (rw (set-set s.endpoints (slot_number e incoming) (begun_at s e incoming p) (queued_slot (limit_of s) incoming (begun_at s e incoming p))), (refl, (refl, refl))))
