-- What an interrupt's reading does to a direction of a data endpoint: one that resets the bus cuts it, one that reports the end of
-- its chain moves it on, and any other leaves it.
-- Assumes nothing.
use Rattle.std.specs.Prelude.{ℕ, Bool, true, false, ◌||◌, cond, List, leb, ◌≡◌, refl, Option, Some, None}
use Rattle.std.proofs.Common.{◌∙◌}
use Rattle.ops.specs.Ops.{Op}
use Rattle.state.specs.declared.Slot.{Slot}
use Rattle.state.specs.declared.Awaited.{Awaited}
use Rattle.state.specs.declared.Reading.{Reading}
use Rattle.state.specs.declared.State.{State}
use Rattle.state.specs.declared.Events.{Events}
use Rattle.state.specs.Awaiting.{awaiting_number, awaitingb}
use Rattle.state.specs.Setters.{limit_of}
use Rattle.state_slots.specs.Slots.{data_endpoint, slot_number, slot_of}
use Rattle.state_laws.specs.SlotLaws.{Cut, slot_range}
use Rattle.bus_reset.specs.Reset.{bus_reset_state}
use Rattle.bus_laws.specs.PowerKeeps.{reset_cut}
use Rattle.transfer_chain.specs.declared.Chain.{Chain}
use Rattle.transfer_step.specs.Step.{report_step, slot_after}
use Rattle.interrupt_link.specs.declared.LinkEffect.{LinkEffect}
use Rattle.interrupt_asks.specs.Turns.{Heard}
use Rattle.interrupt_asks.specs.Settled.{settled_at, settled}
use Rattle.interrupt_transfer.specs.Transfers.{Turned}
use Rattle.interrupt_readings.specs.Matched.{Matched, matched_as}
use Rattle.interrupt_readings.specs.Heard.{heard_link}
use Rattle.interrupt_followers.specs.Followers.{heard_transfer}
use Rattle.interrupt.specs.Interrupt.{answer_conditions, link_before, link_after, link_settled, transfer_settled, answered, answer_call}
use Rattle.history_ideal.specs.Ideal as ideal
use Rattle.history_ops.specs.Recorded.{Recorded, none, recorded, handed, follower, same_slot}
use Rattle.history_ops.specs.Readings.{Report, report_of, reported, resets_bus}
use Rattle.history_ops.proofs.RecordedLaws.{handed_here, handed_there}
use Rattle.history_ops.proofs.ReadingOps.{link_resets}
use Rattle.history_ops.proofs.AnswerOps.{of_link, of_transfer, answered_recorded}
use Rattle.usbss.specs.Call.{World, Answer}
use Rattle.usbss.specs.Step.{step}
use Rattle.history_rows.specs.Memory.{accepted}
use Rattle.history_effect.specs.Seen.{Seen, Reports, Cuts, Nothing, only, seen_report, seen}
use Rattle.history_effect.specs.Effect.{follows, EffectAs, Effect}
use Rattle.history_effect.proofs.DataSlots.{settled_slot}
use Rattle.history_effect.proofs.UnlessEffects.{passing, cutting, unless_does}
use Rattle.history_effect.proofs.ReportSlots.{same_is, slot_behind, transfer_slot}

-- ---- a reading of the transfers

-- a chain of its own, as it is recorded
handed_follows : (e : ℕ) (incoming : Bool) (k : Option Chain) → handed e incoming k incoming e ≡ follows incoming k
handed_follows e incoming None = refl
handed_follows e incoming (Some k) = handed_here e incoming k

module _ (limit : ℕ) (incoming : Bool) (x y : Slot) (chains : Recorded) (r : ideal.Report) where
  reporting : y ≡ slot_after limit incoming x (report_step limit incoming r.packets r.last x)
      → chains ≡ follows incoming (follower limit incoming (report_step limit incoming r.packets r.last x)) → EffectAs limit incoming x y chains (Reports r)
  unfolding EffectAs
  reporting h k = record { slot = h; chain = k }

module _ (s : State) (e : ℕ) (incoming : Bool) (y : Slot) (chains : Recorded) where
  abbrev x : Slot
  x = slot_of s e incoming

  -- by whether the report is of this direction
  report_does : (r : Option Report) → y ≡ slot_behind s r e incoming → chains ≡ reported s r incoming e
      → EffectAs (limit_of s) incoming x y chains (seen_report e incoming r)
  report_does None h k = passing (limit_of s) incoming x y chains k h
  report_does (Some r) h k = go (same_slot r.endpoint r.incoming e incoming) refl h
    where
      next : ℕ → Bool → Option Chain
      next i way = follower (limit_of s) way (report_step (limit_of s) way r.packets r.last (slot_of s i way))

      go : (b : Bool) → same_slot r.endpoint r.incoming e incoming ≡ b
          → y ≡ cond b (slot_after (limit_of s) incoming x (report_step (limit_of s) incoming r.packets r.last x)) x
          → EffectAs (limit_of s) incoming x y chains (only b (Reports (record { packets = r.packets; last = r.last })))
      go true q l =
          let n = same_is r.endpoint r.incoming e incoming q in
          reporting (limit_of s) incoming x y chains (record { packets = r.packets; last = r.last }) l (k ∙ rw (n.0, n.1) (handed_follows e incoming (next e incoming)))
      go false q l = passing (limit_of s) incoming x y chains (k ∙ handed_there r.endpoint r.incoming (next r.endpoint r.incoming) incoming e q) l

-- ---- a reading of the link

-- cut, or left
abbrev Touched : Bool → Slot → Slot → Type 0
Touched true x y = Cut x y
Touched false x y = y ≡ x

module _ (s : State) (v : Events) (e : ℕ) (incoming : Bool) (d : data_endpoint e ≡ true) where
  abbrev i : ℕ
  i = slot_number e incoming

  reset_touched : (b : Bool) → Touched b (slot_of s e incoming) (slot_of (cond (b || false) (bus_reset_state s) s) e incoming)
  reset_touched true = let range = slot_range e incoming d in reset_cut s i range.0 range.1
  reset_touched false = refl

  link_touched : (m : Matched)
      → Touched (resets_bus s.revision s.awaited m) (slot_of s e incoming)
      (slot_of (link_settled s (heard_link s.ep0_address s.revision s.awaited (link_before s v) m)).state e incoming)
  link_touched m =
      let h = heard_link s.ep0_address s.revision s.awaited (link_before s v) m in
      rw (settled_slot (link_after s h.effect) h.effect.events h.awaited h.ops i, link_resets s.ep0_address s.revision s.awaited (link_before s v) m)
      (reset_touched (resets_bus s.revision s.awaited m))

  touched_does : (b : Bool) (y : Slot) (chains : Recorded) → Touched b (slot_of s e incoming) y → chains ≡ none
      → EffectAs (limit_of s) incoming (slot_of s e incoming) y chains (cond b Cuts Nothing)
  touched_does true y chains h k = cutting (limit_of s) incoming (slot_of s e incoming) y chains k h
  touched_does false y chains h k = passing (limit_of s) incoming (slot_of s e incoming) y chains k h

  -- ---- the call

  abbrev told : Matched → Seen
  told m = cond (resets_bus s.revision s.awaited m) Cuts (seen_report e incoming (report_of s.awaited m))

  -- where it is taken; the first six readings are the link's
  answered_does : (r : Reading)
      → let m = matched_as s.awaited.next r in
      EffectAs (limit_of s) incoming (slot_of s e incoming) (slot_of (answered s v m).state e incoming) (recorded incoming e (answered s v m).ops) (told m)
  answered_does r = go (leb (awaiting_number s.awaited.next) 6) refl (recorded incoming e (answered s v m).ops) (answered_recorded 0 s v r incoming e)
    where
      m : Matched
      m = matched_as s.awaited.next r

      go : (b : Bool) → leb (awaiting_number s.awaited.next) 6 ≡ b → (chains : Recorded) → chains ≡ reported s (report_of s.awaited m) incoming e
          → EffectAs (limit_of s) incoming (slot_of s e incoming)
          (slot_of (cond b (link_settled s (heard_link s.ep0_address s.revision s.awaited (link_before s v) m)) (transfer_settled v (heard_transfer s m))).state e incoming)
          chains (told m)
      -- a reading of the link reports no chain, one of the transfers resets no bus
      go true h chains k =
          let n = (of_link s.awaited (awaiting_number s.awaited.next) h r).0 in
          rw n (touched_does (resets_bus s.revision s.awaited m) _ chains (link_touched m) (rw n at k))
      go false h chains k =
          let t = heard_transfer s m in
          rw (of_transfer s.revision s.awaited (awaiting_number s.awaited.next) h r)
          (report_does s e incoming _ chains (report_of s.awaited m) (settled_slot t.state v t.awaited t.ops i ∙ transfer_slot s e incoming d m) k)

-- what is taken is answered without a refusal
settled_accepted : (s : State) (v : Events) (a : Awaited) (ops : List Op) → accepted (settled s v a ops).answer ≡ true
unfolding settled
settled_accepted s v a ops = go (awaitingb a.next)
  where
    go : (b : Bool) → accepted (settled_at b s v a ops).answer ≡ true
    go true = refl
    go false = refl

answered_accepted : (s : State) (v : Events) (m : Matched) → accepted (answered s v m).answer ≡ true
answered_accepted s v m = go (leb (awaiting_number s.awaited.next) 6)
  where
    h : Heard LinkEffect
    h = heard_link s.ep0_address s.revision s.awaited (link_before s v) m

    t : Turned
    t = heard_transfer s m

    go : (b : Bool) → accepted (cond b (link_settled s h) (transfer_settled v t)).answer ≡ true
    go true = settled_accepted (link_after s h.effect) h.effect.events h.awaited h.ops
    go false = settled_accepted t.state v t.awaited t.ops

pub answer_effect : (w : World) (e : ℕ) (incoming : Bool) → data_endpoint e ≡ true → (room : ℕ) (r : Reading) → Effect e incoming w (Answer room r)
unfolding step seen answer_call
answer_effect w e incoming d room r =
    let s = w.state in
    let v = w.events in
    let m = matched_as s.awaited.next r in
    unless_does s v e incoming (λ b. only b (told s v e incoming d m)) refl (answer_conditions room s v r) (answered s v m)
    (rw (answered_accepted s v m) (answered_does s v e incoming d r))
