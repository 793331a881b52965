-- A reading handed in, whichever is awaited: it records the chain that follows a report, and no other; the address goes to 0 by a
-- bus reset, to the one that waited by the end of a status stage, and else stays as it was.
-- Assumes nothing.
use Rattle.std.specs.Prelude.{ℕ, ◌<◌, Bool, true, false, cond, eqb, leb, ◌≡◌, refl, None, Err}
use Rattle.std.proofs.Common.{arith}
use Rattle.std.proofs.lemmas.Bool.{ne_eqb, leb-true, leb-false}
use Rattle.state.specs.declared.Awaited.{Awaited}
use Rattle.state.specs.declared.Reading.{Reading}
use Rattle.state.specs.declared.Reading.TheVariants as reading
use Rattle.state.specs.declared.State.{State}
use Rattle.state.specs.declared.Events.{Events}
use Rattle.state.specs.Awaiting.{awaiting_number}
use Rattle.state.specs.Refusals.{first_refusal}
use Rattle.state_call.specs.Outcome.{or_else}
use Rattle.interrupt_asks.specs.SettledLaws.{settled_ops}
use Rattle.interrupt_readings.specs.Matched.{Matched, other, link_flags, link_status, capability, term_status, message, warm_status, matched, matched_as}
use Rattle.interrupt_readings.specs.Heard.{heard_link}
use Rattle.interrupt_followers.specs.Followers.{heard_transfer}
use Rattle.interrupt.specs.Interrupt.{answer_conditions, link_before, link_after, link_settled, transfer_settled, answered, answer_call}
use Rattle.history_ops.specs.Recorded.{none, recorded}
use Rattle.history_ops.specs.Held.{Moves, due}
use Rattle.history_ops.specs.Readings.{report_of, reported, ends_status, resets_bus}
use Rattle.history_ops.proofs.ReadingOps.{link_silent, link_moves, transfer_recorded, transfer_moves}
use Rattle.history_ops.proofs.CallLaws.{unless_recorded, unless_moves}

-- ---- the first six readings are the link's

-- a number above 6 isn't one of the first
late : (n k : ℕ) → leb n 6 ≡ false → k < 7 → eqb n k ≡ false
late n k h l = ne_eqb n k (λ q. omega (arith, q, l, leb-false n 6 h))

-- and one up to 6 none of the others
early : (n k : ℕ) → leb n 6 ≡ true → 6 < k → eqb n k ≡ false
early n k h l = ne_eqb n k (λ q. omega (arith, q, l, leb-true n 6 h))

module _ (a : Awaited) (n : ℕ) (h : leb n 6 ≡ true) where
  abbrev pub NoTransfer : Matched → Type 0
  NoTransfer m = (report_of a m ≡ None) × (ends_status m ≡ false)

  either : (b : Bool) (x y : Matched) → NoTransfer x → NoTransfer y → NoTransfer (cond b x y)
  either true x y p q = p
  either false x y p q = q

  -- a reading of the link reports no chain and ends no status stage,
  pub of_link : (r : Reading) → NoTransfer (matched n r)
  of_link (reading.LinkFlags f) = either (eqb n 1) (link_flags f) other (refl, refl) (refl, refl)
  of_link (reading.LinkStatus r) =
      either (eqb n 2) (link_status r) (cond (eqb n 4) (term_status r) (cond (eqb n 6) (warm_status r) other)) (refl, refl)
      (either (eqb n 4) (term_status r) (cond (eqb n 6) (warm_status r) other) (refl, refl) (either (eqb n 6) (warm_status r) other (refl, refl) (refl, refl)))
  of_link (reading.PortCapability b) = either (eqb n 3) (capability b) other (refl, refl) (refl, refl)
  of_link (reading.MessageWord w) = either (eqb n 5) (message w) other (refl, refl) (refl, refl)
  of_link (reading.TransferStatus t) = rw (early n 7 h (omega arith)) (refl, refl)
  of_link (reading.SetupBytes b) = rw (early n 8 h (omega arith)) (refl, refl)
  of_link (reading.Ep0Length l) = rw (early n 9 h (omega arith)) (refl, refl)
  of_link (reading.Ep0Sequence q) = rw (early n 10 h (omega arith)) (refl, refl)
  of_link (reading.ChainPackets p) = rw (early n 11 h (omega arith)) (refl, refl)
  of_link (reading.LastLength l) = rw (early n 12 h (omega arith)) (refl, refl)

module _ (revision : ℕ) (a : Awaited) (n : ℕ) (h : leb n 6 ≡ false) where
  one_of : (b : Bool) (x y : Matched) → resets_bus revision a x ≡ false → resets_bus revision a y ≡ false → resets_bus revision a (cond b x y) ≡ false
  one_of true x y p q = p
  one_of false x y p q = q

  -- and one of the transfers resets no bus
  pub of_transfer : (r : Reading) → resets_bus revision a (matched n r) ≡ false
  of_transfer (reading.LinkFlags f) = rw (late n 1 h (omega arith)) refl
  of_transfer (reading.LinkStatus r) = rw (late n 2 h (omega arith), late n 4 h (omega arith), late n 6 h (omega arith)) refl
  of_transfer (reading.PortCapability b) = rw (late n 3 h (omega arith)) refl
  of_transfer (reading.MessageWord w) = rw (late n 5 h (omega arith)) refl
  of_transfer (reading.TransferStatus t) = one_of (eqb n 7) _ other refl refl
  of_transfer (reading.SetupBytes b) = one_of (eqb n 8) _ other refl refl
  of_transfer (reading.Ep0Length l) = one_of (eqb n 9) _ other refl refl
  of_transfer (reading.Ep0Sequence q) = one_of (eqb n 10) _ other refl refl
  of_transfer (reading.ChainPackets p) = one_of (eqb n 11) _ other refl refl
  of_transfer (reading.LastLength l) = one_of (eqb n 12) _ other refl refl

-- ---- the call

module _ (room : ℕ) (s : State) (v : Events) (r : Reading) where
  abbrev n : ℕ
  n = awaiting_number s.awaited.next

  abbrev m : Matched
  m = matched_as s.awaited.next r

  -- where it is taken
  pub answered_recorded : (incoming : Bool) (e : ℕ)
      → recorded incoming e (answered s v (matched_as s.awaited.next r)).ops ≡ reported s (report_of s.awaited (matched_as s.awaited.next r)) incoming e
  answered_recorded incoming e = go (leb n 6) refl
    where
      go : (b : Bool) → leb n 6 ≡ b
          → recorded incoming e (cond b (link_settled s (heard_link s.ep0_address s.revision s.awaited (link_before s v) m)) (transfer_settled v (heard_transfer s m))).ops
          ≡ reported s (report_of s.awaited m) incoming e
      go true h =
          let k = heard_link s.ep0_address s.revision s.awaited (link_before s v) m in
          rw (← settled_ops (link_after s k.effect) k.effect.events k.awaited k.ops, (of_link s.awaited n h r).0)
          (link_silent s.ep0_address s.revision s.awaited (link_before s v) m incoming e)
      go false h =
          let k = heard_transfer s m in
          rw (← settled_ops k.state v k.awaited k.ops) (transfer_recorded s m incoming e)

  pub answered_moves : (a : ℕ)
      → Moves a (cond (resets_bus s.revision s.awaited (matched_as s.awaited.next r)) 0 (cond (ends_status (matched_as s.awaited.next r)) (due s.address a) a))
      (answered s v (matched_as s.awaited.next r)).ops
  answered_moves a = go (leb n 6) refl
    where
      go : (b : Bool) → leb n 6 ≡ b
          → Moves a (cond (resets_bus s.revision s.awaited m) 0 (cond (ends_status m) (due s.address a) a))
          (cond b (link_settled s (heard_link s.ep0_address s.revision s.awaited (link_before s v) m)) (transfer_settled v (heard_transfer s m))).ops
      go true h =
          let k = heard_link s.ep0_address s.revision s.awaited (link_before s v) m in
          rw (← settled_ops (link_after s k.effect) k.effect.events k.awaited k.ops, (of_link s.awaited n h r).1)
          (link_moves s.ep0_address s.revision s.awaited (link_before s v) a m)
      go false h =
          let k = heard_transfer s m in
          rw (← settled_ops k.state v k.awaited k.ops, of_transfer s.revision s.awaited n h r) (transfer_moves s a m)

  -- A reading handed in records what its report does;
  pub answer_recorded : (incoming : Bool) (e : ℕ)
      → recorded incoming e (answer_call room s v r).ops
      ≡ or_else (first_refusal (answer_conditions room s v r)) (λ q. none) (reported s (report_of s.awaited (matched_as s.awaited.next r)) incoming e)
  unfolding answer_call
  answer_recorded incoming e = rw (← answered_recorded incoming e) (unless_recorded Err (first_refusal (answer_conditions room s v r)) s v (answered s v m) incoming e)

  -- and the address changes by a bus reset and by the end of a status stage alone, in one step.
  pub answer_moves : (a : ℕ)
      → Moves a
      (or_else (first_refusal (answer_conditions room s v r)) (λ q. a)
      (cond (resets_bus s.revision s.awaited (matched_as s.awaited.next r)) 0 (cond (ends_status (matched_as s.awaited.next r)) (due s.address a) a)))
      (answer_call room s v r).ops
  unfolding answer_call
  answer_moves a = unless_moves Err (first_refusal (answer_conditions room s v r)) s v (answered s v m) a _ (answered_moves a)
