-- A reading that is handed in, refused or not: what it comes to, and that nothing is written where it is refused.
-- Assumes nothing.
use Rattle.std.specs.Prelude.{ℕ, ◌≡◌, refl, Bool, true, false, cond, List, [], leb, Result, Ok, Err, Option}
use Rattle.std.proofs.Common.{sym, subst}
use Rattle.ops.specs.declared.OpList.{OpList}
use Rattle.ops.specs.ListsLaws.{none}
use Rattle.state.specs.declared.Awaiting.{Awaiting}
use Rattle.state.specs.declared.Awaited.{Awaited}
use Rattle.state.specs.declared.Reading.{Reading}
use Rattle.state.specs.declared.Refusal.{Refusal}
use Rattle.state.specs.declared.State.{State}
use Rattle.state.specs.declared.Events.{Events}
use Rattle.state.specs.Awaiting.{awaiting_number}
use Rattle.state.specs.Refusals.{Check, Condition, first_refusal}
use Rattle.state_slots.specs.Waking.{no_wakes}
use Rattle.state_sound.specs.Sound.{soundb}
use Rattle.state_call.specs.Outcome.{or_else}
use Rattle.transfer_window.specs.Window.{in_hand_count, window_of}
use Rattle.interrupt_link.specs.declared.LinkEffect.{LinkEffect}
use Rattle.interrupt_asks.specs.declared.Sight.{Sight}
use Rattle.interrupt_asks.specs.declared.Turn.{Turn}
use Rattle.interrupt_asks.specs.Turns.{Heard, Hears, Takes}
use Rattle.interrupt_begin.specs.Begin.{door}
use Rattle.interrupt_transfer.specs.declared.TransferEffect.{TransferEffect}
use Rattle.interrupt_transfer.specs.Pieces.{sight_of}
use Rattle.interrupt_readings.specs.Matched.{reading_own}
use Rattle.interrupt_readings.specs.Heard.{link_heard}
use Rattle.interrupt_followers.specs.Pieces.{pieces_heard}
use Rattle.interrupt_hear.specs.declared.Effects.{Effects}
use Rattle.interrupt_hear.specs.Hear.{slots_heard, heard_slot, link_both, transfer_both, heard_by}
use Rattle.interrupt.specs.Interrupt.{answer_call}
use Rattle.interrupt.specs.InterruptLaws.{reading_refused}
use Rattle.interrupt.specs.Parts.{effects_before}

-- a reading, unless it is refused
unfoldable pub turned : {E : Type 0} → List Condition → E → Awaited → Heard E → Heard E
turned own f a h = or_else (first_refusal own) (λ q. record { effect = f; awaited = a; ops = [] }) h

abbrev pub link_turned : Sight → LinkEffect → Option Awaiting → Reading → Heard LinkEffect
link_turned g f next r = turned (reading_own next r) f g.awaited (link_heard g f next r)

abbrev pub pieces_turned : Sight → TransferEffect → Option Awaiting → Reading → Heard TransferEffect
pieces_turned g f next r = turned (reading_own next r) f g.awaited (pieces_heard g f next r)

-- the first six readings are the link's
abbrev pub both_turned : Sight → Effects → Reading → Heard Effects
both_turned g f r =
    cond (leb (awaiting_number g.awaited.next) 6) (link_both f (link_turned g f.link g.awaited.next r))
    (transfer_both f (pieces_turned g f.transfer g.awaited.next r))

-- what is said of a result: what its tests come to, and its turn, which is as before where it is refused
abbrev pub check_of : {E : Type 0} → Result (Turn E) Refusal → Check
check_of (Ok t) = Ok tt
check_of (Err r) = Err r

abbrev pub turn_of : {E : Type 0} → E → Awaited → Result (Turn E) Refusal → Turn E
turn_of f a (Ok t) = t
turn_of f a (Err r) = record { effect = f; awaited = a }

-- A result that takes a reading has its check, and what the reading comes to, refused or not.
pub taken : {E : Type 0} (l l' : OpList) (own : List Condition) (f : E) (a : Awaited) (h : Heard E) (x : Result (Turn E) Refusal)
    → Takes l own h x l' → (check_of x ≡ first_refusal own) × Hears l (turned own f a h) (turn_of f a x) l'
unfolding turned or_else
taken l l' own f a h (Ok t) k = rw (k.0) (refl, k.1)
taken l l' own f a h (Err r) k = rw (k.0) (refl, (refl, (refl, rw (k.1) (none l))))

-- What is said of a kind that is awaited, is said of what is awaited: of the link,
module _ (g : Sight) (f : LinkEffect) (r : Reading) where
  abbrev LinkSays : Check → Turn LinkEffect → OpList → OpList → Option Awaiting → Type 0
  LinkSays check t l l' k = (check ≡ first_refusal (reading_own k r)) × Hears l (link_turned g f k r) t l'

  pub heard_as : {check : Check} {t : Turn LinkEffect} {l l' : OpList} {next k : Option Awaiting} → next ≡ k
      → (check ≡ first_refusal (reading_own k r)) × Hears l (link_turned g f k r) t l'
      → (check ≡ first_refusal (reading_own next r)) × Hears l (link_turned g f next r) t l'
  heard_as {check} {t} {l} {l'} e s = subst (LinkSays check t l l') (sym e) s

-- and of the transfers
module _ (g : Sight) (f : TransferEffect) (r : Reading) where
  abbrev TransferSays : Check → Turn TransferEffect → OpList → OpList → Option Awaiting → Type 0
  TransferSays check t l l' k = (check ≡ first_refusal (reading_own k r)) × Hears l (pieces_turned g f k r) t l'

  pub turned_as : {check : Check} {t : Turn TransferEffect} {l l' : OpList} {next k : Option Awaiting} → next ≡ k
      → (check ≡ first_refusal (reading_own k r)) × Hears l (pieces_turned g f k r) t l'
      → (check ≡ first_refusal (reading_own next r)) × Hears l (pieces_turned g f next r) t l'
  turned_as {check} {t} {l} {l'} e s = subst (TransferSays check t l l') (sym e) s

-- a reading that is accepted is heard
pub both_heard : (g : Sight) (f : Effects) (r : Reading) → first_refusal (reading_own g.awaited.next r) ≡ Ok tt → both_turned g f r ≡ heard_by g f r
unfolding turned or_else heard_by
both_heard g f r h = rw (h) refl

-- what a reading of the state's own pieces comes to
abbrev pub turned_in : State → Events → Reading → Heard Effects
turned_in s v r =
    let i = heard_slot s.awaited.endpoint r in
    both_turned (sight_of s i (window_of (in_hand_count s (slots_heard s.awaited.next)))) (effects_before s v i) r

-- a reading that is refused writes nothing
pub unwritten_turn : {E : Type 0} (own : List Condition) (f : E) (a : Awaited) (h : Heard E) (q : Refusal) → first_refusal own ≡ Err q → (turned own f a h).ops ≡ []
unfolding turned or_else
unwritten_turn own f a h q e = rw (e) refl

either : (f : Effects) (l : Heard LinkEffect) (t : Heard TransferEffect) (b : Bool) → l.ops ≡ [] → t.ops ≡ [] → (cond b (link_both f l) (transfer_both f t)).ops ≡ []
either f l t true h k = h
either f l t false h k = k

-- Refused for the reading itself, a call changes nothing, and nothing was written for it.
pub refused_unwritten : (room : ℕ) (s : State) (v : Events) (r : Reading) (q : Refusal) → door room (soundb s v) ≡ Ok tt → first_refusal (reading_own s.awaited.next r) ≡ Err q
    → (Err q ≡ (answer_call room s v r).answer)
    × ((s ≡ (answer_call room s v r).state)
    × ((v ≡ (answer_call room s v r).events)
    × (([] ≡ (answer_call room s v r).ops) × ((no_wakes ≡ (answer_call room s v r).wakes) × ((turned_in s v r).ops ≡ [])))))
refused_unwritten room s v r q e h =
    let k = reading_refused room s v r q e h in
    let i = heard_slot s.awaited.endpoint r in
    let g = sight_of s i (window_of (in_hand_count s (slots_heard s.awaited.next))) in
    let f = effects_before s v i in
    let own = reading_own s.awaited.next r in (
      k.0,
      (
        k.1.0,
        (
          k.1.1.0,
          (
            k.1.1.1.0,
            (
              k.1.1.1.1,
              either
                  f
                  (link_turned g f.link s.awaited.next r)
                  (pieces_turned g f.transfer s.awaited.next r)
                  (leb (awaiting_number s.awaited.next) 6)
                  (unwritten_turn own f.link s.awaited (link_heard g f.link s.awaited.next r) q h)
                  (unwritten_turn own f.transfer s.awaited (pieces_heard g f.transfer s.awaited.next r) q h),
            ),
          ),
        ),
      ),
    )
