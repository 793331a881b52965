-- What take, sent and received do to one direction of a data endpoint.
-- Assumes nothing.
use Rattle.std.specs.Prelude.{ℕ, Bool, true, false, not, ◌&&◌, cond, List, [], nat_lt, ltb, ◌≡◌, refl, length, Some, None, Ok, Err}
use Rattle.std.proofs.Common.{sym, ap, subst, ◌∙◌}
use Rattle.base.specs.EachLaws.{true_not_false}
use Rattle.ops.specs.Ops.{Op}
use Rattle.state.specs.declared.State.{State}
use Rattle.state.specs.declared.Events.{Events}
use Rattle.state.specs.declared.EndpointAddress.{EndpointAddress}
use Rattle.state.specs.declared.Slot.{Slot}
use Rattle.state.specs.declared.Refusal.{Refusal}
use Rattle.state.specs.declared.Refusal.TheVariants.{Disabled, OutOfTurn, TooLong, UnfitBuffer}
use Rattle.state.specs.Awaiting.{awaitingb}
use Rattle.state.specs.Refusals.{first_refusal}
use Rattle.state.specs.Setters.{with_slot}
use Rattle.state_slots.specs.Slots.{idleb, busyb, data_endpoint, slot_number, slot_of}
use Rattle.state_sound.specs.Sound.{soundb}
use Rattle.state_call.specs.Outcome.{or_else}
use Rattle.state_laws.specs.SlotLaws.{stored_here}
use Rattle.transfer_piece.specs.declared.Piece.{Piece}
use Rattle.transfer_piece.specs.Piece.{begun_slot}
use Rattle.transfer_take.specs.Take.{take_conditions, take_answer, take_leaves, take_call}
use Rattle.endpoint_parts.specs.Parts.{part}
use Rattle.endpoint_choice.specs.declared.Asked.{Asked}
use Rattle.endpoint_choice.specs.declared.MoveRequest.{MoveRequest}
use Rattle.endpoint_choice.specs.Choice.{asked_of, place_after, closes, own_unfit, own_transfer, any_length}
use Rattle.endpoint_answer.specs.declared.Move.TheVariants as move
use Rattle.endpoint_sent.specs.Sent.{sent_says, sent_call}
use Rattle.endpoint_received.specs.Received.{receive_most, received_ends, received_says, brought_by, received_call}
use Rattle.history_ops.specs.Recorded.{Silent}
use Rattle.history_ops.proofs.RecordedLaws.{silent_none}
use Rattle.history_ops.proofs.CallOps.{take_quiet}
use Rattle.usbss.specs.Call.{World, Take, Sent, Received}
use Rattle.usbss.specs.Step.{step}
use Rattle.history_rows.specs.Memory.{memory_of, Sound}
use Rattle.history_effect.specs.Seen.{Told, Seen, Asks, Early, takes, took_busy, moved_busy, seen}
use Rattle.history_effect.specs.Effect.{Moving, EffectAs, Effect}
use Rattle.history_effect.proofs.SlotCases.{stored_other, At, Others, on_slot, others_by_check}

-- what a call makes of a take's answer, on a slot that had x
record Makes (x : Slot) (answer : Told) (most : ℕ) (most_of : Piece → ℕ) (busy : Bool) (Says : Piece → Told → Type 0) : Type 0 where
  pub busy_is : busy ≡ took_busy answer
  pub refused : (p : Piece) (r : Refusal) → answer ≡ Err r → Says p (Err r)
  pub moving : (p : Piece) → Moving x p → (most_of p ≡ most) × Says p answer

-- ---- one take for the three: in its turn it finds the slot idle, or what it is lent unfit, or takes

took_is : (unfit : Bool) (most : ℕ) (x : Slot) → took_busy (cond unfit (Err UnfitBuffer) (take_answer most x)) ≡ (not unfit && busyb x.phase)
took_is true most x = refl
took_is false most x = go (busyb x.phase) (nat_lt most x.transfer.progress)
  where
    go : (b c : Bool) → took_busy (cond b (Ok None) (cond c (Err TooLong) (Ok (Some x.transfer.progress)))) ≡ b
    go true c = refl
    go false true = refl
    go false false = refl

module _ (s : State) (v : Events) (i : ℕ) (way : Bool) (unfit : Bool) (most : ℕ) where
  -- another slot's
  take_there : (ops : List Op) → Silent ops → Others s (take_call s v i way unfit most).state ops i way
  unfolding take_call
  take_there ops q e incoming h =
      let stored : Others s (with_slot s (slot_number i way) (take_leaves (slot_of s i way))) [] i way =
      λ f b k. record { silent = silent_none b f; same = stored_other s i way _ f b k } in
      record { silent = q incoming e; same = (others_by_check (first_refusal (take_conditions s v i way unfit)) s v _ i way stored e incoming h).same }

  module _ (sound : soundb s v ≡ true) (d : data_endpoint i ≡ true) where
    early : awaitingb s.awaited.next ≡ true
        → ((take_call s v i way unfit most).answer ≡ Err OutOfTurn) × (slot_of (take_call s v i way unfit most).state i way ≡ slot_of s i way)
    unfolding take_call or_else
    early q = rw (sound, q) (refl, refl)

    idle : awaitingb s.awaited.next ≡ false → idleb (slot_of s i way).phase ≡ true
        → ((take_call s v i way unfit most).answer ≡ Err Disabled) × (slot_of (take_call s v i way unfit most).state i way ≡ slot_of s i way)
    unfolding take_call or_else
    idle q z = rw (sound, q, d, z) (refl, refl)

    in_hand : awaitingb s.awaited.next ≡ false → idleb (slot_of s i way).phase ≡ false → (b : Bool) → unfit ≡ b
        → ((take_call s v i way unfit most).answer ≡ cond b (Err UnfitBuffer) (take_answer most (slot_of s i way)))
        × (slot_of (take_call s v i way unfit most).state i way ≡ cond b (slot_of s i way) (take_leaves (slot_of s i way)))
    unfolding take_call or_else
    in_hand q z true u = rw (sound, q, d, z, u) (refl, refl)
    in_hand q z false u =
        rw (sound, q, d, z, u)
        (refl, stored_here s (slot_number i way) (take_leaves (slot_of s i way)) (λ k. true_not_false (sym (ap (λ (y : Slot). idleb y.phase) k) ∙ z)))

    module _ (most_of : Piece → ℕ) (busy : Bool) (Says : Piece → Told → Type 0) (ops : List Op) (quiet : Silent ops) (m : Makes (slot_of s i way) (take_call s v i way unfit most).answer most most_of busy Says) where
      asked_here : awaitingb s.awaited.next ≡ false → At s (take_call s v i way unfit most).state ops (Asks unfit most_of busy Says) i way
      unfolding EffectAs
      asked_here q =
          record {
            silent = quiet way i;
            nothing = λ z. let a = idle q z in ((λ p. m.refused p Disabled a.0), a.1);
            something =
                λ z. let a = in_hand q z unfit refl in (
                  (λ p k. let t = m.moving p k in
                      subst (Says p) (a.0 ∙ ap (λ n. cond unfit (Err UnfitBuffer) (take_answer n (slot_of s i way))) (sym t.0)) t.1),
                  (a.1, m.busy_is ∙ ap took_busy a.0 ∙ took_is unfit most (slot_of s i way)),
                );
          }

      early_here : awaitingb s.awaited.next ≡ true → At s (take_call s v i way unfit most).state ops (Early Says) i way
      unfolding EffectAs
      early_here q = let a = early q in record { silent = quiet way i; says = λ p. m.refused p OutOfTurn a.0; same = a.1 }

      take_here : At s (take_call s v i way unfit most).state ops (takes (memory_of s) unfit most_of busy Says) i way
      take_here = go (awaitingb s.awaited.next) refl
        where
          go : (b : Bool) → awaitingb s.awaited.next ≡ b → At s (take_call s v i way unfit most).state ops (cond b (Early Says) (Asks unfit most_of busy Says)) i way
          go true q = early_here q
          go false q = asked_here q

-- a take as such, that lends nothing and has room for any number of bytes
pub effect_take : (w : World) → Sound w → (e : ℕ) (incoming : Bool) → data_endpoint e ≡ true → (at : EndpointAddress) → Effect e incoming w (Take at)
unfolding seen step
effect_take w h e incoming d at =
    let t = take_call w.state w.events at.index at.incoming false any_length in
    let quiet = (take_quiet w.state w.events at.index at.incoming false any_length).silent in
    let k : Seen = takes (memory_of w.state) false (λ p. any_length) (took_busy t.answer) (λ p a. t.answer ≡ a) in
    on_slot w.state t.state t.ops at.index at.incoming k
    (λ z. take_here w.state w.events at.index at.incoming false any_length h z (λ p. any_length) (took_busy t.answer) (λ p a. t.answer ≡ a) t.ops quiet
    (record { busy_is = refl; refused = λ p r q. q; moving = λ p q. (refl, refl) }))
    (take_there w.state w.events at.index at.incoming false any_length t.ops quiet) e incoming d

-- ---- sent: what it makes of the answer hangs on where the transfer's bytes lie

sent_busy : (x : Slot) (k : Asked) (t : Told) → moved_busy (sent_says x k t) ≡ took_busy t
sent_busy x k (Err r) = refl
sent_busy x k (Ok None) = refl
sent_busy x k (Ok (Some n)) = go (ltb (place_after k n) k.length) (own_transfer x && (closes x k && ltb 0 n))
  where
    go : (a b : Bool) → moved_busy (Ok (cond a (move.More (place_after k n)) (cond b (move.More k.length) (move.Ended k.length)))) ≡ false
    go true b = refl
    go false true = refl
    go false false = refl

sent_same : (x : Slot) (k : Asked) (p : Piece) (t : Told) → Moving x p → sent_says x k t ≡ sent_says (begun_slot x p) k t
sent_same x k p (Err r) q = refl
sent_same x k p (Ok None) q = refl
sent_same x k p (Ok (Some n)) q = rw (q.0) refl

pub effect_sent : (w : World) → Sound w → (e : ℕ) (incoming : Bool) → data_endpoint e ≡ true → (i : ℕ) (request : MoveRequest) (bytes own : ℕ)
    → Effect e incoming w (Sent i request bytes own)
unfolding seen step sent_call
effect_sent w h e incoming d i request bytes own =
    let k = asked_of request bytes in
    let x = slot_of w.state i true in
    let unfit = own_unfit x request.own_address own in
    let t = take_call w.state w.events i true unfit any_length in
    let Says : Piece → Told → Type 0 = λ p a. sent_says x k t.answer ≡ sent_says (begun_slot x p) k a in
    on_slot w.state t.state [] i true (takes (memory_of w.state) unfit (λ p. any_length) (moved_busy (sent_says x k t.answer)) Says)
    (λ z. take_here w.state w.events i true unfit any_length h z (λ p. any_length) (moved_busy (sent_says x k t.answer)) Says [] silent_none
    (record { busy_is = sent_busy x k t.answer; refused = λ p r q. ap (sent_says x k) q; moving = λ p q. (refl, sent_same x k p t.answer q) }))
    (take_there w.state w.events i true unfit any_length [] silent_none) e incoming d

-- ---- received: so it does here, and on the transfer's length

received_busy : (x : Slot) (k : Asked) (t : Told) → moved_busy (received_says x k t) ≡ took_busy t
received_busy x k (Err r) = refl
received_busy x k (Ok None) = refl
received_busy x k (Ok (Some n)) = go (received_ends x k n)
  where
    go : (a : Bool) → moved_busy (Ok (cond a (move.Ended (place_after k n)) (move.More (place_after k n)))) ≡ false
    go true = refl
    go false = refl

received_same : (x : Slot) (k : Asked) (p : Piece) (t : Told) → Moving x p → received_says x k t ≡ received_says (begun_slot x p) k t
received_same x k p (Err r) q = refl
received_same x k p (Ok None) q = refl
received_same x k p (Ok (Some n)) q = rw (q.1) refl

-- what it says and stores
abbrev received_said : Slot → Asked → List ℕ → Told → Piece → Told → Type 0
received_said x k held t p a =
    (received_says x k t ≡ received_says (begun_slot x p) k a)
    × (part held 0 (brought_by (own_transfer x) t) ≡ part held 0 (brought_by (own_transfer (begun_slot x p)) a))

pub effect_received : (w : World) → Sound w → (e : ℕ) (incoming : Bool) → data_endpoint e ≡ true → (i : ℕ) (request : MoveRequest) (bytes : ℕ) (held : List ℕ)
    → Effect e incoming w (Received i request bytes held)
unfolding seen step received_call
effect_received w h e incoming d i request bytes held =
    let k = asked_of request bytes in
    let x = slot_of w.state i false in
    let unfit = own_unfit x request.own_address (length held) in
    let most = receive_most x k (length held) in
    let t = take_call w.state w.events i false unfit most in
    let most_of : Piece → ℕ = λ p. receive_most (begun_slot x p) k (length held) in
    let busy = moved_busy (received_says x k t.answer) in
    on_slot w.state t.state [] i false (takes (memory_of w.state) unfit most_of busy (received_said x k held t.answer))
    (λ z. take_here w.state w.events i false unfit most h z most_of busy (received_said x k held t.answer) [] silent_none
    (record {
      busy_is = received_busy x k t.answer;
      refused = λ p r q. rw q (refl, refl);
      moving = λ p q. (rw (q.0) refl, (received_same x k p t.answer q, rw (q.0) refl));
    }))
    (take_there w.state w.events i false unfit most [] silent_none) e incoming d
