-- An interrupt's calls by their ways out.
-- Assumes nothing.
use Rattle.std.specs.Prelude.{ℕ, ◌≤◌, Bool, ◌||◌, ◌≡◌, leb, is_some, Ok, Err, Option, Some, None, Result}
use Rattle.std.proofs.Math.Bool.{true, false, cond}
use mathlib.Core.List.{List, [], ◌∷◌, ◌++◌}
use Rattle.std.proofs.Math.Path.{refl, ap}
use Rattle.std.proofs.Common.{subst, ◌∙◌, ltb-false}
use Rattle.std.proofs.lemmas.Bool.{not-false}
use Rattle.ops.specs.Ops.{list_numbers}
use Rattle.state.specs.declared.Awaiting.{Awaiting}
use Rattle.state.specs.declared.Awaited.{Awaited}
use Rattle.state.specs.declared.Reading.{Reading}
use Rattle.state.specs.declared.State.{State}
use Rattle.state.specs.declared.Events.{Events}
use Rattle.state.specs.declared.Wakes.{Wakes}
use Rattle.state.specs.declared.Refusal.{Refusal}
use Rattle.state.specs.Awaiting.{awaiting_number, awaitingb}
use Rattle.state.specs.Fresh.{nothing_awaited}
use Rattle.state.specs.Refusals.{Condition, first_refusal, FirstIs, here, later, Bound}
use Rattle.state.specs.RefusalsLaws.{bound, refused_if, none_due, not_due}
use Rattle.state.specs.Setters.{with_link, with_wake, with_awaited}
use Rattle.state_slots.specs.Completing.{collected}
use Rattle.state_slots.specs.Waking.{no_wakes}
use Rattle.state_sound.specs.Sound.{soundb}
use Rattle.state_call.specs.Outcome.{Outcome, or_else, refusal}
use Rattle.state_call.specs.OutcomeLaws.{or_part}
use Rattle.transfer_window.specs.Window.{in_hand_count, window_of}
use Rattle.bus_reset.specs.Reset.{bus_reset_state}
use Rattle.control_report.specs.Ep0.{received_by, reset_by}
use Rattle.interrupt_link.specs.declared.LinkEffect.{LinkEffect}
use Rattle.interrupt_asks.specs.Turns.{Heard}
use Rattle.interrupt_asks.specs.Settled.{settled, interrupt_numbers}
use Rattle.interrupt_asks.specs.SettledLaws.{settled_parts, settled_numbers}
use Rattle.interrupt_transfer.specs.declared.TransferEffect.{TransferEffect}
use Rattle.interrupt_transfer.specs.Transfers.{Turned}
use Rattle.interrupt_transfer.specs.Pieces.{sight_of, pieces_of, placed, after_pieces}
use Rattle.interrupt_readings.specs.Matched.{Matched, matched_as, reading_own}
use Rattle.interrupt_readings.specs.Heard.{heard_link}
use Rattle.interrupt_followers.specs.Followers.{heard_transfer}
use Rattle.interrupt_followers.specs.Pieces.{heard_pieces}
use Rattle.interrupt_hear.specs.declared.Effects.{Effects}
use Rattle.interrupt_hear.specs.Hear.{slots_heard, heard_slot, link_both, transfer_both, heard_by}
use Rattle.interrupt_pieces.specs.PiecesLaws.{placed_own, pieces_same}
use Rattle.interrupt.specs.Interrupt.{answer_conditions, link_before, link_flags_of, link_after, link_settled, transfer_settled, answered, answer_call, next_awaiting, answer_says}
use Rattle.interrupt_begin.specs.Begin.{door_conditions, door}
use Rattle.interrupt.specs.Parts.{effects_before, reset_placed, reacted, heard_in}

-- Each refusal is given exactly where it is the first that is due, and none where none is.
pub answer_bound : (room : ℕ) (s : State) (v : Events) (r : Reading) → Bound (answer_conditions room s v r) (first_refusal (answer_conditions room s v r))
answer_bound room s v r = bound (answer_conditions room s v r)

-- a call that passes it was lent enough, and further conditions decide
pub wide : (room : ℕ) (good : Bool) → door room good ≡ Ok tt → list_numbers ≤ room
wide room good e = ltb-false room list_numbers (not_due (none_due (door_conditions room good []) e)).0

good : (room : ℕ) (sound : Bool) → door room sound ≡ Ok tt → sound ≡ true
good room sound e = not-false sound (not_due (not_due (none_due (door_conditions room sound []) e)).1).0

through : (room : ℕ) (good : Bool) (own : List Condition) → door room good ≡ Ok tt → first_refusal (door_conditions room good own) ≡ first_refusal own
through room good own e =
    let n = not_due (none_due (door_conditions room good []) e) in
    rw (n.0, (not_due n.1).0)

first_more : {q : Refusal} {ds : List Condition} (more : List Condition) → FirstIs q ds → FirstIs q (ds ++ more)
first_more more here = here
first_more more (later p) = later (first_more more p)

stopped : (room : ℕ) (good : Bool) (own : List Condition) (q : Refusal) → door room good ≡ Err q → first_refusal (door_conditions room good own) ≡ Err q
stopped room good own q e = refused_if (first_more own (subst (Bound (door_conditions room good [])) e (bound (door_conditions room good []))))

module _ (room : ℕ) (s : State) (v : Events) (r : Reading) where
  pub answer_refused : (q : Refusal) → door room (soundb s v) ≡ Err q
      → (Err q ≡ (answer_call room s v r).answer)
      × ((s ≡ (answer_call room s v r).state) × ((v ≡ (answer_call room s v r).events) × (([] ≡ (answer_call room s v r).ops) × (no_wakes ≡ (answer_call room s v r).wakes))))
  unfolding answer_call or_else
  answer_refused q e = rw (stopped room (soundb s v) (reading_own s.awaited.next r) q e) (refl, (refl, (refl, (refl, refl))))

  -- refused for the reading itself
  pub reading_refused : (q : Refusal) → door room (soundb s v) ≡ Ok tt → first_refusal (reading_own s.awaited.next r) ≡ Err q
      → (Err q ≡ (answer_call room s v r).answer)
      × ((s ≡ (answer_call room s v r).state) × ((v ≡ (answer_call room s v r).events) × (([] ≡ (answer_call room s v r).ops) × (no_wakes ≡ (answer_call room s v r).wakes))))
  unfolding answer_call or_else
  reading_refused q e h = rw (through room (soundb s v) (reading_own s.awaited.next r) e, h) (refl, (refl, (refl, (refl, refl))))

-- where nothing resets, the state stays
pub unreset : (t : State) (bus : Bool) (setup : Option (List ℕ)) → (bus || is_some setup) ≡ false → t ≡ reset_by bus t setup
unreset t true setup e = absurd (cc)
unreset t false (Some bytes) e = absurd (cc)
unreset t false None e = refl

-- a reading of the link stores the pieces of the transfers back as they were
link_reacted : (s : State) (v : Events) (i : ℕ) (l : LinkEffect) → reacted s i (record (effects_before s v i) { link = l }) ≡ link_after s l
link_reacted s v i l = ap (λ t. with_link (cond l.resets (bus_reset_state t) t) (link_flags_of l)) (placed_own s i)

-- one of the transfers leaves the link
transfer_reacted : (s : State) (v : Events) (i : ℕ) (f : TransferEffect) → reacted s i (record (effects_before s v i) { transfer = f }) ≡ after_pieces s i f
transfer_reacted s v i f = go f.setup
  where
    go : (o : Option (List ℕ)) → with_link (received_by (placed s i f) o) (link_flags_of (link_before s v)) ≡ received_by (placed s i f) o
    go None = refl
    go (Some b) = refl

-- the pieces stored back, and settled, are the call
module _ (room : ℕ) (s : State) (v : Events) (r : Reading) where
  abbrev i : ℕ
  i = heard_slot s.awaited.endpoint r

  abbrev m : Matched
  m = matched_as s.awaited.next r

  abbrev h : Heard LinkEffect
  h = heard_link s.ep0_address s.revision s.awaited (link_before s v) m

  abbrev both : Bool → Heard Effects
  both b =
      cond b (link_both (effects_before s v i) h)
      (transfer_both (effects_before s v i) (heard_pieces (sight_of s i (window_of (in_hand_count s (slots_heard s.awaited.next)))) (pieces_of s i) m))

  heard_settled : door room (soundb s v) ≡ Ok tt → first_refusal (reading_own s.awaited.next r) ≡ Ok tt
      → settled (reacted s i (heard_in s v r).effect) (heard_in s v r).effect.link.events (heard_in s v r).awaited (heard_in s v r).ops ≡ answer_call room s v r
  unfolding answer_call or_else heard_by
  heard_settled e f = rw (through room (soundb s v) (reading_own s.awaited.next r) e, f) (go (leb (awaiting_number s.awaited.next) 6))
    where
      go : (b : Bool) → settled (reacted s i (both b).effect) (both b).effect.link.events (both b).awaited (both b).ops
          ≡ cond b (link_settled s h) (transfer_settled v (heard_transfer s m))
      go true = ap (λ t. settled t h.effect.events h.awaited h.ops) (link_reacted s v i h.effect)
      go false =
          let k = pieces_same s v (good room (soundb s v) e) r in
          rw (transfer_reacted s v i (both false).effect.transfer, k.state, k.awaited, k.ops)

  -- the same of what was heard, under other names
  settled_as : (k : ℕ) (f : Effects) (a : Awaited) → door room (soundb s v) ≡ Ok tt → first_refusal (reading_own s.awaited.next r) ≡ Ok tt
      → k ≡ i → f ≡ (heard_in s v r).effect → a ≡ (heard_in s v r).awaited → settled (reacted s k f) f.link.events a (heard_in s v r).ops ≡ answer_call room s v r
  settled_as k f a d e p q u = rw (p, q, u) (heard_settled d e)

  -- the call's parts, of the state t behind what resets, and of how the call ends
  pub ended_as : (t : State) (k : ℕ) (f : Effects) (a left : Awaited) (wake : ℕ) (wakes : Wakes)
      → door room (soundb s v) ≡ Ok tt → first_refusal (reading_own s.awaited.next r) ≡ Ok tt
      → k ≡ i → f ≡ (heard_in s v r).effect → a ≡ (heard_in s v r).awaited → t ≡ reset_placed s k f
      → left ≡ cond (awaitingb a.next) a nothing_awaited
      → wake ≡ cond (awaitingb a.next) t.wake 0 → wakes ≡ cond (awaitingb a.next) no_wakes (collected f.link.events t.wake)
      → (Ok a.next ≡ (answer_call room s v r).answer)
      × ((with_awaited (with_wake (with_link t (link_flags_of f.link)) wake) left ≡ (answer_call room s v r).state)
      × ((f.link.events ≡ (answer_call room s v r).events) × (((heard_in s v r).ops ≡ (answer_call room s v r).ops) × (wakes ≡ (answer_call room s v r).wakes))))
  ended_as t k f a left wake wakes d e p q u j l w x =
      rw (← settled_as k f a d e p q u, l, w, x, j) (settled_parts (reacted s k f) f.link.events a (heard_in s v r).ops)

-- The numbers of an answer are the paper's.
answered_numbers : (s : State) (v : Events) (m : Matched) → interrupt_numbers (answered s v m).answer ≡ 0 ∷ awaiting_number (next_awaiting s v m) ∷ []
answered_numbers s v m = go (leb (awaiting_number s.awaited.next) 6)
  where
    h : Heard LinkEffect
    h = heard_link s.ep0_address s.revision s.awaited (link_before s v) m

    t : Turned
    t = heard_transfer s m

    go : (b : Bool) → interrupt_numbers (cond b (link_settled s h) (transfer_settled v t)).answer ≡ 0 ∷ awaiting_number (cond b h.awaited.next t.awaited.next) ∷ []
    go true = settled_numbers (link_after s h.effect) h.effect.events h.awaited h.ops
    go false = settled_numbers t.state v t.awaited t.ops

pub answer_says_lem : (room : ℕ) (s : State) (v : Events) (r : Reading) → interrupt_numbers (answer_call room s v r).answer ≡ answer_says room s v r
unfolding answer_call
answer_says_lem room s v r =
    or_part (λ (o : Outcome (Result (Option Awaiting) Refusal)). interrupt_numbers o.answer) (first_refusal (answer_conditions room s v r)) (λ q. refusal (Err q) s v) _
    ∙ rw (answered_numbers s v (matched_as s.awaited.next r))
