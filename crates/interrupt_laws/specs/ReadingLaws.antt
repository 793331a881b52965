-- An accepted reading is one of twelve, each in its place of the sequence.
-- Assumes nothing.
use Rattle.std.specs.Prelude.{ℕ, ◌<◌, Bool, true, false, not, ◌||◌, cond, ◌≡◌, List, leb, Option, Some, None, Result}
use Rattle.std.proofs.Math.Path.{refl}
use Rattle.std.proofs.Common.{sym, subst, arith, eqb-true}
use Rattle.std.proofs.lemmas.Bool.{not-false}
use Rattle.std.proofs.Math.Dec.{eqb}
use Rattle.base.specs.Each.{every}
use Rattle.base.specs.EachLaws.{every_at, implied, true_not_false}
use Rattle.state.specs.declared.LinkFlags.{LinkFlags}
use Rattle.state.specs.declared.LinkStatus.{LinkStatus}
use Rattle.state.specs.declared.TransferStatus.{TransferStatus}
use Rattle.state.specs.declared.Awaiting.{Awaiting}
use Rattle.state.specs.declared.Awaiting.TheVariants as awaiting
use Rattle.state.specs.declared.Reading.{Reading}
use Rattle.state.specs.declared.Reading.TheVariants as reading
use Rattle.state.specs.declared.State.{State}
use Rattle.state.specs.declared.Events.{Events}
use Rattle.state.specs.declared.Refusal.{Refusal}
use Rattle.state.specs.Awaiting.{awaiting_number, awaitingb}
use Rattle.state.specs.Numbers.{reading_in_range}
use Rattle.state.specs.Refusals.{NoneDue}
use Rattle.state.specs.RefusalsLaws.{not_due}
use Rattle.state_sound.specs.Sound.{soundb}
use Rattle.state_call.specs.Outcome.{Outcome}
use Rattle.state_call.specs.OutcomeLaws.{passed_reading}
use Rattle.interrupt_readings.specs.Matched.{Matched, link_flags, link_status, capability, term_status, message, warm_status, transfer_status, setup_bytes, ep0_length, ep0_sequence, chain_packets, last_length, wanted_kind, matched, matchesb, matched_as}
use Rattle.interrupt_readings.specs.Heard.{heard_link}
use Rattle.interrupt_followers.specs.Followers.{heard_transfer}
use Rattle.interrupt.specs.Interrupt.{answer_conditions, link_before, link_settled, transfer_settled}

-- the kind that is wanted, by the place in the sequence
abbrev kind_at : ℕ → ℕ
kind_at n =
    cond (eqb n 1) 1
    (cond (eqb n 2 || (eqb n 4 || eqb n 6)) 2
    (cond (eqb n 3) 3
    (cond (eqb n 5) 4
    (cond (eqb n 7) 5 (cond (eqb n 8) 6 (cond (eqb n 9) 7 (cond (eqb n 10) 8 (cond (eqb n 11) 9 (cond (eqb n 12) 10 0)))))))))

numbered : (a : Option Awaiting) → (wanted_kind a ≡ kind_at (awaiting_number a)) × (awaiting_number a < 13)
numbered None = (refl, omega arith)
numbered (Some awaiting.LinkFlags) = (refl, omega arith)
numbered (Some awaiting.LinkStatus) = (refl, omega arith)
numbered (Some awaiting.PortCapability) = (refl, omega arith)
numbered (Some awaiting.TermPresStatus) = (refl, omega arith)
numbered (Some awaiting.MessageWord) = (refl, omega arith)
numbered (Some awaiting.WarmResetStatus) = (refl, omega arith)
numbered (Some awaiting.TransferStatus) = (refl, omega arith)
numbered (Some awaiting.SetupBytes) = (refl, omega arith)
numbered (Some awaiting.Ep0Length) = (refl, omega arith)
numbered (Some awaiting.Ep0Sequence) = (refl, omega arith)
numbered (Some awaiting.ChainPackets) = (refl, omega arith)
numbered (Some awaiting.LastLength) = (refl, omega arith)

-- what holds of every place whose reading is of kind k, holds of the awaited one of that kind
of_kind : (k : ℕ) (P : ℕ → Bool) → every (λ n. not (eqb (kind_at n) k) || P n) 13 ≡ true → (a : Option Awaiting) → eqb (wanted_kind a) k ≡ true → P (awaiting_number a) ≡ true
of_kind k P h a e =
    let n = numbered a in
    implied (eqb (kind_at (awaiting_number a)) k) (P (awaiting_number a)) (rw n.0 at e) (every_at (λ i. not (eqb (kind_at i) k) || P i) 13 (awaiting_number a) h n.1)

-- something that holds of each of the twelve, by its place; a sequence number is tested to have 5 bits
pub record EachReading (P : ℕ → Matched → Type 0) : Type 0 where
  pub on_flags : (f : LinkFlags) → P 1 (link_flags f)
  pub on_status : (r : LinkStatus) → P 2 (link_status r)
  pub on_capability : (b : Bool) → P 3 (capability b)
  pub on_term : (r : LinkStatus) → P 4 (term_status r)
  pub on_message : (w : ℕ) → P 5 (message w)
  pub on_warm : (r : LinkStatus) → P 6 (warm_status r)
  pub on_transfer : (t : TransferStatus) → P 7 (transfer_status t)
  pub on_setup : (b : List ℕ) → P 8 (setup_bytes b)
  pub on_bytes : (l : ℕ) → P 9 (ep0_length l)
  pub on_sequence : (q : ℕ) → leb q 31 ≡ true → P 10 (ep0_sequence q)
  pub on_packets : (p : ℕ) → P 11 (chain_packets p)
  pub on_last : (l : ℕ) → P 12 (last_length l)

module _ (P : ℕ → Matched → Type 0) (e : EachReading P) (a : Option Awaiting) where
  at_place : (n : ℕ) (r : Reading) → eqb (awaiting_number a) n ≡ true → P n (matched n r) → P (awaiting_number a) (matched_as a r)
  at_place n r q h = subst (λ (k : ℕ). P k (matched k r)) (sym (eqb-true (awaiting_number a) n q)) h

  -- the link's status is asked at three places
  at_status : (r : LinkStatus) (b c d : Bool) → eqb (awaiting_number a) 2 ≡ b → eqb (awaiting_number a) 4 ≡ c → eqb (awaiting_number a) 6 ≡ d → (b || (c || d)) ≡ true
      → P (awaiting_number a) (matched_as a (reading.LinkStatus r))
  at_status r true c d qb qc qd h = at_place 2 (reading.LinkStatus r) qb (e.on_status r)
  at_status r false true d qb qc qd h = at_place 4 (reading.LinkStatus r) qc (e.on_term r)
  at_status r false false true qb qc qd h = at_place 6 (reading.LinkStatus r) qd (e.on_warm r)
  at_status r false false false qb qc qd h = absurd (true_not_false (sym h))

  -- A reading of the awaited kind is one of them, in the awaited place.
  pub each_reading : (r : Reading) → matchesb a r ≡ true → reading_in_range r ≡ true → P (awaiting_number a) (matched_as a r)
  unfolding every
  each_reading (reading.LinkFlags f) h k = at_place 1 (reading.LinkFlags f) (of_kind 1 (λ n. eqb n 1) refl a h) (e.on_flags f)
  each_reading (reading.LinkStatus r) h k = at_status r _ _ _ refl refl refl (of_kind 2 (λ n. eqb n 2 || (eqb n 4 || eqb n 6)) refl a h)
  each_reading (reading.PortCapability b) h k = at_place 3 (reading.PortCapability b) (of_kind 3 (λ n. eqb n 3) refl a h) (e.on_capability b)
  each_reading (reading.MessageWord w) h k = at_place 5 (reading.MessageWord w) (of_kind 4 (λ n. eqb n 5) refl a h) (e.on_message w)
  each_reading (reading.TransferStatus t) h k = at_place 7 (reading.TransferStatus t) (of_kind 5 (λ n. eqb n 7) refl a h) (e.on_transfer t)
  each_reading (reading.SetupBytes b) h k = at_place 8 (reading.SetupBytes b) (of_kind 6 (λ n. eqb n 8) refl a h) (e.on_setup b)
  each_reading (reading.Ep0Length l) h k = at_place 9 (reading.Ep0Length l) (of_kind 7 (λ n. eqb n 9) refl a h) (e.on_bytes l)
  each_reading (reading.Ep0Sequence q) h k = at_place 10 (reading.Ep0Sequence q) (of_kind 8 (λ n. eqb n 10) refl a h) (e.on_sequence q k)
  each_reading (reading.ChainPackets p) h k = at_place 11 (reading.ChainPackets p) (of_kind 9 (λ n. eqb n 11) refl a h) (e.on_packets p)
  each_reading (reading.LastLength l) h k = at_place 12 (reading.LastLength l) (of_kind 10 (λ n. eqb n 12) refl a h) (e.on_last l)

-- a report of endpoint 0's IN packet has the tenth place
pub sequence_place : (a : Option Awaiting) (q : ℕ) → matchesb a (reading.Ep0Sequence q) ≡ true → awaiting_number a ≡ 10
unfolding every
sequence_place a q h = eqb-true _ 10 (of_kind 8 (λ n. eqb n 10) refl a h)

-- and a message's word the fifth
pub message_place : (a : Option Awaiting) (w : ℕ) → matchesb a (reading.MessageWord w) ≡ true → awaiting_number a ≡ 5
unfolding every
message_place a w h = eqb-true _ 5 (of_kind 4 (λ n. eqb n 5) refl a h)

-- what a reading leads to, by its place
abbrev pub answered_at : State → Events → ℕ → Matched → Outcome (Result (Option Awaiting) Refusal)
answered_at s v n m =
    cond (leb n 6) (link_settled s (heard_link s.ep0_address s.revision s.awaited (link_before s v) m)) (transfer_settled v (heard_transfer s m))

-- what an accepted reading was tested for
pub record TestedReading (s : State) (v : Events) (r : Reading) : Type 0 where
  pub sound : soundb s v ≡ true
  pub matches : matchesb s.awaited.next r ≡ true
  pub range : reading_in_range r ≡ true
  pub under_way : awaitingb s.awaited.next ≡ true

pub tested_reading : (room : ℕ) (s : State) (v : Events) (r : Reading) → NoneDue (answer_conditions room s v r) → TestedReading s v r
tested_reading room s v r n =
    let k = passed_reading room s v (matchesb s.awaited.next r) _ n in
    let range = not-false (reading_in_range r) (not_due k.1.1.1).0 in
    record {
      sound = k.1.0;
      matches = k.1.1.0;
      range = range;
      under_way = each_reading (λ i m. not (eqb i 0) ≡ true) some s.awaited.next r k.1.1.0 range;
    }
  where
    some : EachReading (λ i m. not (eqb i 0) ≡ true)
    some =
        record {
          on_flags = λ f. refl;
          on_status = λ r. refl;
          on_capability = λ b. refl;
          on_term = λ r. refl;
          on_message = λ w. refl;
          on_warm = λ r. refl;
          on_transfer = λ t. refl;
          on_setup = λ b. refl;
          on_bytes = λ l. refl;
          on_sequence = λ q k. refl;
          on_packets = λ p. refl;
          on_last = λ l. refl;
        }
