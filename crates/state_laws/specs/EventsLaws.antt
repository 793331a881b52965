-- Laws of `raise` and `poll`, over every number and not just bytes.
-- Assumes nothing.
use Rattle.std.specs.Prelude.{ℕ, ◌+◌, ◌/◌, ◌<◌, Bool, true, false, ◌&&◌, not, cond, ◌≡◌, refl, eqb, Option, Some, None}
use Rattle.std.proofs.Common.{sym, ◌∙◌, subst, arith, ne_eqb}
use Rattle.state_events.specs.declared.Event.{Event}
use Rattle.state_events.specs.declared.Event.TheVariants as event
use Rattle.state_events.specs.Bytes.{reset, suspend, resume, power, pendingb, events_soundb}
use Rattle.state_events.specs.Events.{event_number, eventb, with_event, without_event, raised, raise_byte, precedence, first_pending, next_pending, without_pending, poll_byte}
use Rattle.state_events.specs.BytesLaws.{either, each, each_number, number_event, up, set_other, set_rest, clear_same, clear_other, clear_rest}

-- a byte with SUSPEND or RESUME missing is sound, and so is one that has the two as a sound one has them
no_suspend : (e : ℕ) → pendingb e suspend ≡ false → events_soundb e ≡ true
no_suspend e p = rw p

no_resume : (e : ℕ) → pendingb e resume ≡ false → events_soundb e ≡ true
no_resume e p = rw p (both (pendingb e suspend))
  where
    both : (b : Bool) → not (b && false) ≡ true
    both true = refl
    both false = refl

alike :
    (e f : ℕ) → pendingb f suspend ≡ pendingb e suspend → pendingb f resume ≡ pendingb e resume → events_soundb e ≡ true → events_soundb f ≡ true
alike e f p q s = rw (p, q) s

raised_sound : (e v : ℕ) → events_soundb e ≡ true → eventb v ≡ true → events_soundb (raised e v) ≡ true
raised_sound e v s =
    each_number Kept
    (alike e (with_event e power) (set_other e power suspend refl refl (λ i. omega arith)) (set_other e power resume refl refl (λ i. omega arith)) s)
    (either Sound (pendingb e power) (reset + power) reset (λ p. refl) (λ p. refl))
    (either Sound (pendingb e resume) (without_event e resume) (with_event e suspend)
    (λ p. no_resume (without_event e resume) (clear_same e resume refl))
    (λ p. no_resume (with_event e suspend) (set_other e suspend resume refl refl (λ i. omega arith) ∙ p)))
    (either Sound (pendingb e suspend) (without_event e suspend) (with_event e resume)
    (λ p. no_suspend (without_event e suspend) (clear_same e suspend refl))
    (λ p. no_suspend (with_event e resume) (set_other e resume suspend refl refl (λ i. omega arith) ∙ p)))
    v
  where
    Sound : ℕ → Type 0
    Sound x = events_soundb x ≡ true

    Kept : ℕ → Type 0
    Kept v = events_soundb (raised e v) ≡ true

-- raising keeps the events sound
pub raise_sound : (e v : ℕ) → events_soundb e ≡ true → events_soundb (raise_byte e v) ≡ true
raise_sound e v s = either (λ x. events_soundb x ≡ true) (eventb v) (raised e v) e (raised_sound e v s) (λ k. s)

-- polling keeps them sound
pub poll_sound : (e : ℕ) → events_soundb e ≡ true → events_soundb (poll_byte e) ≡ true
poll_sound e s = left (next_pending e)
  where
    spared : (v : ℕ) → eventb v ≡ true → (v ≡ suspend → ⊥) → (v ≡ resume → ⊥) → events_soundb (without_event e v) ≡ true
    spared v h d f = alike e (without_event e v) (clear_other e v suspend h refl d) (clear_other e v resume h refl f) s

    cleared : (v : Event) → events_soundb (without_event e (event_number v)) ≡ true
    cleared =
        each (λ v. events_soundb (without_event e (event_number v)) ≡ true)
        (spared power refl (λ i. omega arith) (λ i. omega arith))
        (spared reset refl (λ i. omega arith) (λ i. omega arith))
        (no_suspend (without_event e suspend) (clear_same e suspend refl))
        (no_resume (without_event e resume) (clear_same e resume refl))

    left : (a : Option Event) → events_soundb (without_pending e a) ≡ true
    left None = s
    left (Some v) = cleared v

-- of two events that cancel, the second takes the first back
module _
    (v w : ℕ)
    (h : eventb v ≡ true)
    (k : eventb w ≡ true)
    (d : v ≡ w → ⊥)
    (one : (e : ℕ) → raised e v ≡ cond (pendingb e w) (without_event e w) (with_event e v))
    (two : (e : ℕ) → raised e w ≡ cond (pendingb e v) (without_event e v) (with_event e w)) where
  first : (e : ℕ) → pendingb e v ≡ false → pendingb e w ≡ false → raise_byte e v ≡ e + v
  first e p q = rw (h, one e, q, p)

  second : (e : ℕ) → pendingb e v ≡ false → raise_byte (e + v) w ≡ e
  second e p = rw (k, two (e + v), up e v h p) (omega arith)

  taken_back : (e : ℕ) → pendingb e v ≡ false → pendingb e w ≡ false → raise_byte (raise_byte e v) w ≡ e
  taken_back e p q = rw (first e p q) (second e p)

-- SUSPEND then RESUME, or the other way round, gives the byte back where neither was pending
pub suspend_resume :
    (e : ℕ) → pendingb e suspend ≡ false → pendingb e resume ≡ false → raise_byte (raise_byte e suspend) resume ≡ e
suspend_resume = taken_back suspend resume refl refl (λ i. omega arith) (λ e. refl) (λ e. refl)

pub resume_suspend :
    (e : ℕ) → pendingb e resume ≡ false → pendingb e suspend ≡ false → raise_byte (raise_byte e resume) suspend ≡ e
resume_suspend = taken_back resume suspend refl refl (λ i. omega arith) (λ e. refl) (λ e. refl)

-- so that where no event was pending none is
abbrev pub NonePending : ℕ → Type 0
NonePending e = (v : Event) → pendingb e (event_number v) ≡ false

pub none_left : (e : ℕ) → NonePending e → NonePending (raise_byte (raise_byte e suspend) resume)
none_left e n v = rw (suspend_resume e (n event.Suspend) (n event.Resume)) (n v)

-- once RESET is raised it is pending, POWER where it was, and nothing else
pub record AfterReset (e f : ℕ) : Type 0 where
  pub set : pendingb f reset ≡ true
  pub kept : pendingb f power ≡ pendingb e power
  pub suspend_clear : pendingb f suspend ≡ false
  pub resume_clear : pendingb f resume ≡ false
  pub rest_clear : f / 16 ≡ 0

pub raise_reset : (e : ℕ) → AfterReset e (raise_byte e reset)
raise_reset e =
    either (AfterReset e) (pendingb e power) (reset + power) reset
    (λ p. record { set = refl; kept = sym p; suspend_clear = refl; resume_clear = refl; rest_clear = refl })
    (λ p. record { set = refl; kept = sym p; suspend_clear = refl; resume_clear = refl; rest_clear = refl })

-- bits 4 and up: any other event keeps them, and so does polling
pub raise_rest : (e v : ℕ) → (v ≡ reset → ⊥) → raise_byte e v / 16 ≡ e / 16
raise_rest e v d =
    either Same (eventb v) (raised e v) e (λ t. rw (ne_eqb v reset d) (otherwise t)) (λ t. refl)
  where
    Same : ℕ → Type 0
    Same x = x / 16 ≡ e / 16

    otherwise : eventb v ≡ true →
        Same
        (cond (eqb v suspend && pendingb e resume) (without_event e resume)
        (cond (eqb v resume && pendingb e suspend) (without_event e suspend)
        (with_event e v)))
    otherwise h =
        either Same (eqb v suspend && pendingb e resume) (without_event e resume) _
        (λ t. clear_rest e resume refl)
        (λ t.
        either Same (eqb v resume && pendingb e suspend) (without_event e suspend) (with_event e v)
        (λ u. clear_rest e suspend refl)
        (λ u. set_rest e v h))

pub poll_rest : (e : ℕ) → poll_byte e / 16 ≡ e / 16
poll_rest e = left (next_pending e)
  where
    left : (a : Option Event) → without_pending e a / 16 ≡ e / 16
    left None = refl
    left (Some v) = clear_rest e (event_number v) (number_event v)

-- the rank of an event in the precedence, the highest at 0
abbrev pub rank : Event → ℕ
rank event.PowerDetected = 0
rank event.Reset = 1
rank event.Suspend = 2
rank event.Resume = 3

-- a given event was pending, and none above it was
pub record Highest (e : ℕ) (v : Event) : Type 0 where
  pub is_pending : pendingb e (event_number v) ≡ true
  pub none_above : (w : Event) → rank w < rank v → pendingb e (event_number w) ≡ false

-- what each answer to a poll says of the byte
abbrev pub Says : ℕ → Option Event → Type 0
Says e None = NonePending e
Says e (Some v) = Highest e v

last : (v : Event) → 3 < rank v → ⊥
last = each (λ v. 3 < rank v → ⊥) (λ l. omega arith) (λ l. omega arith) (λ l. omega arith) (λ l. omega arith)

pub poll_says_lem : (e : ℕ) → Says e (next_pending e)
poll_says_lem e = first
  where
    Clear : Event → Type 0
    Clear v = pendingb e (event_number v) ≡ false

    highest :
        (v : Event) →
        pendingb e (event_number v) ≡ true →
        (0 < rank v → Clear event.PowerDetected) →
        (1 < rank v → Clear event.Reset) →
        (2 < rank v → Clear event.Suspend) →
        Highest e v
    highest v t p r s =
        record {
          is_pending = t;
          none_above =
              each (λ w. rank w < rank v → Clear w) p r s (λ l. absurd (last v l));
        }

    first : Says e (first_pending e precedence)
    first =
        either (Says e) (pendingb e power) (Some event.PowerDetected) _
        (λ t. highest event.PowerDetected t (λ l. absurd (omega arith)) (λ l. absurd (omega arith)) (λ l. absurd (omega arith)))
        (λ p.
        either (Says e) (pendingb e reset) (Some event.Reset) _
        (λ t. highest event.Reset t (λ l. p) (λ l. absurd (omega arith)) (λ l. absurd (omega arith)))
        (λ r.
        either (Says e) (pendingb e suspend) (Some event.Suspend) _
        (λ t. highest event.Suspend t (λ l. p) (λ l. r) (λ l. absurd (omega arith)))
        (λ s.
        either (Says e) (pendingb e resume) (Some event.Resume) None
        (λ t. highest event.Resume t (λ l. p) (λ l. r) (λ l. s))
        (λ m. each Clear p r s m))))

-- read for an event: it was the highest pending one, isn't pending any more, and the others are as they were
pub given_highest : (e : ℕ) (v : Event) → next_pending e ≡ Some v → Highest e v
given_highest e v h = subst (Says e) h (poll_says_lem e)

pub given_gone : (e : ℕ) (v : Event) → next_pending e ≡ Some v → pendingb (poll_byte e) (event_number v) ≡ false
given_gone e v h = rw h (clear_same e (event_number v) (number_event v))

pub given_others :
    (e : ℕ) (v w : Event) → next_pending e ≡ Some v → (event_number v ≡ event_number w → ⊥) → pendingb (poll_byte e) (event_number w) ≡ pendingb e (event_number w)
given_others e v w h = rw h (clear_other e (event_number v) (event_number w) (number_event v) (number_event w))

-- Nothing is the answer exactly where none of the four is pending
pub nothing_none : (e : ℕ) → next_pending e ≡ None → NonePending e
nothing_none e h = subst (Says e) h (poll_says_lem e)

pub none_nothing : (e : ℕ) → NonePending e → next_pending e ≡ None
none_nothing e n =
    rw (n event.PowerDetected, n event.Reset, n event.Suspend, n event.Resume)
