-- Setting and clearing one of the four bits.
-- Assumes nothing.
use Rattle.std.specs.Prelude.{ℕ, ◌+◌, ◌-◌, ◌*◌, ◌/◌, ◌%◌, ◌<◌, ◌≤◌, Bool, true, false, ◌||◌, cond, ◌≡◌, refl, eqb}
use Rattle.std.proofs.lemmas.Bool.{false≢true, eqb-false}
use Rattle.std.proofs.Common.{ap, sym, ◌∙◌, arith, eqb-true, eq-eqb, ne_eqb}
use Rattle.std.proofs.Math.Nat.{div-div-eq-div-mul, add-div_right, add-mul-div_left}
use Rattle.state_events.specs.declared.Event.{Event}
use Rattle.state_events.specs.declared.Event.TheVariants as event
use Rattle.state_events.specs.Bytes.{reset, suspend, resume, power, pendingb}
use Rattle.state_events.specs.Events.{event_number, eventb, with_event, without_event}

-- what holds on both sides of a test holds of the choice
pub either : {A : Type 0} (P : A → Type 0) (b : Bool) (x y : A) → (b ≡ true → P x) → (b ≡ false → P y) → P (cond b x y)
either P true x y p q = p refl
either P false x y p q = q refl

-- what holds of each of the four holds of any: as events, and as numbers that pass for one
pub each : (P : Event → Type 0) → P event.PowerDetected → P event.Reset → P event.Suspend → P event.Resume → (v : Event) → P v
each P p r s m event.PowerDetected = p
each P p r s m event.Reset = r
each P p r s m event.Suspend = s
each P p r s m event.Resume = m

pub each_number : (P : ℕ → Type 0) → P power → P reset → P suspend → P resume → (v : ℕ) → eventb v ≡ true → P v
each_number P p r s m v =
    find (eqb v reset) (eqb v suspend) (eqb v resume) (eqb v power) (eqb-true v reset) (eqb-true v suspend) (eqb-true v resume) (eqb-true v power)
  where
    find :
        (a b c d : Bool) →
        (a ≡ true → v ≡ reset) →
        (b ≡ true → v ≡ suspend) →
        (c ≡ true → v ≡ resume) →
        (d ≡ true → v ≡ power) →
        (a || b || c || d) ≡ true →
        P v
    find true b c d i j k l h = rw (i refl) r
    find false true c d i j k l h = rw (j refl) s
    find false false true d i j k l h = rw (k refl) m
    find false false false true i j k l h = rw (l refl) p
    find false false false false i j k l h = absurd (false≢true h)

pub number_event : (v : Event) → eventb (event_number v) ≡ true
number_event = each (λ v. eventb (event_number v) ≡ true) refl refl refl refl

pub positive : (v : ℕ) → eventb v ≡ true → 0 < v
positive = each_number (λ v. 0 < v) (omega arith) (omega arith) (omega arith) (omega arith)

-- a byte has room for a bit that is clear, and is no less than one that is set
pub byte_room : (e v : ℕ) → eventb v ≡ true → pendingb e v ≡ false → e < 256 → e + v < 256
byte_room e =
    each_number (λ v. pendingb e v ≡ false → e < 256 → e + v < 256)
    (λ n b. omega (arith, eqb-false))
    (λ n b. omega (arith, eqb-false))
    (λ n b. omega (arith, eqb-false))
    (λ n b. omega (arith, eqb-false))

pub least : (e v : ℕ) → eventb v ≡ true → pendingb e v ≡ true → v ≤ e
least e =
    each_number (λ v. pendingb e v ≡ true → v ≤ e)
    (λ y. omega (arith, eqb-true))
    (λ y. omega (arith, eqb-true))
    (λ y. omega (arith, eqb-true))
    (λ y. omega (arith, eqb-true))

back : (e v : ℕ) → eventb v ≡ true → pendingb e v ≡ true → e - v + v ≡ e
back e v h p = let l = least e v h p in omega arith

-- adding its number sets a clear bit, and taking it away clears a set one
abbrev Clear : ℕ → ℕ → Type 0
Clear e v = e / v % 2 ≡ 1 → ⊥

pub up : (e v : ℕ) → eventb v ≡ true → pendingb e v ≡ false → pendingb (e + v) v ≡ true
up e v h p = eq-eqb _ _ (number v h (eqb-false _ _ p))
  where
    number : (v : ℕ) → eventb v ≡ true → Clear e v → (e + v) / v % 2 ≡ 1
    number =
        each_number (λ v. Clear e v → (e + v) / v % 2 ≡ 1) (λ n. omega arith) (λ n. omega arith) (λ n. omega arith) (λ n. omega arith)

down : (e v : ℕ) → eventb v ≡ true → pendingb e v ≡ true → pendingb (e - v) v ≡ false
down e v h p = ne_eqb _ _ (number v h (eqb-true _ _ p))
  where
    number : (v : ℕ) → eventb v ≡ true → e / v % 2 ≡ 1 → Clear (e - v) v
    number =
        each_number (λ v. e / v % 2 ≡ 1 → Clear (e - v) v)
        (λ y n. omega arith)
        (λ y n. omega arith)
        (λ y n. omega arith)
        (λ y n. omega arith)

-- nothing is carried out of a clear bit, so that the bits above stay, and those below are counted over
no_carry : (e v m : ℕ) → 0 < v → Clear e v → (e + v) / (v * 2 * m) ≡ e / (v * 2 * m)
no_carry e v m h n =
    rw (
      ← div-div-eq-div-mul (e + v) (v * 2) m,
      ← div-div-eq-div-mul (e + v) v 2,
      add-div_right e h,
      even (e / v) n,
      div-div-eq-div-mul e v 2,
      div-div-eq-div-mul e (v * 2) m,
    )
  where
    even : (x : ℕ) → (x % 2 ≡ 1 → ⊥) → (x + 1) / 2 ≡ x / 2
    even x n = omega arith

abbrev Stays : ℕ → ℕ → ℕ → Type 0
Stays e v w = (v ≡ w → ⊥) → Clear e v → (e + v) / w % 2 ≡ e / w % 2

above : (e v m : ℕ) → 0 < v → Stays e v (v * 2 * m)
above e v m h d n = ap (λ x. x % 2) (no_carry e v m h n)

below : (e w m : ℕ) → 0 < w → Stays e (w * (2 * m)) w
below e w m h d n = rw (add-mul-div_left e (2 * m) h) (two (e / w))
  where
    two : (x : ℕ) → (x + 2 * m) % 2 ≡ x % 2
    two x = omega arith

same : (e v : ℕ) → Stays e v v
same e v d = absurd (d refl)

stays : (e v w : ℕ) → eventb v ≡ true → eventb w ≡ true → Stays e v w
stays e v w h k =
    let l1 : 0 < 1 = omega arith in
    let l2 : 0 < 2 = omega arith in
    let l4 : 0 < 4 = omega arith in
    each_number (λ v. Stays e v w)
    (each_number (Stays e power) (same e power) (below e 1 4 l1) (below e 2 2 l2) (below e 4 1 l4) w k)
    (each_number (Stays e reset) (above e 1 4 l1) (same e reset) (above e 1 1 l1) (above e 1 2 l1) w k)
    (each_number (Stays e suspend) (above e 2 2 l2) (below e 1 1 l1) (same e suspend) (above e 2 1 l2) w k)
    (each_number (Stays e resume) (above e 4 1 l4) (below e 1 2 l1) (below e 2 1 l2) (same e resume) w k)
    v
    h

pub up_other :
    (e v w : ℕ) → eventb v ≡ true → eventb w ≡ true → (v ≡ w → ⊥) → pendingb e v ≡ false → pendingb (e + v) w ≡ pendingb e w
up_other e v w h k d p = ap (λ x. eqb x 1) (stays e v w h k d (eqb-false _ _ p))

-- the bits of no event, 4 and up
up_rest : (e v : ℕ) → eventb v ≡ true → pendingb e v ≡ false → (e + v) / 16 ≡ e / 16
up_rest e v h p = number v h (eqb-false _ _ p)
  where
    number : (v : ℕ) → eventb v ≡ true → Clear e v → (e + v) / 16 ≡ e / 16
    number =
        each_number (λ v. Clear e v → (e + v) / 16 ≡ e / 16)
        (no_carry e 8 1 (omega arith))
        (no_carry e 1 8 (omega arith))
        (no_carry e 2 4 (omega arith))
        (no_carry e 4 2 (omega arith))

-- an event that is set is pending, and the rest of the byte as before
pub set_same : (e v : ℕ) → eventb v ≡ true → pendingb (with_event e v) v ≡ true
set_same e v h = either (λ x. pendingb x v ≡ true) (pendingb e v) e (e + v) (λ p. p) (up e v h)

pub set_other : (e v w : ℕ) → eventb v ≡ true → eventb w ≡ true → (v ≡ w → ⊥) → pendingb (with_event e v) w ≡ pendingb e w
set_other e v w h k d =
    either (λ x. pendingb x w ≡ pendingb e w) (pendingb e v) e (e + v) (λ p. refl) (up_other e v w h k d)

pub set_rest : (e v : ℕ) → eventb v ≡ true → with_event e v / 16 ≡ e / 16
set_rest e v h = either (λ x. x / 16 ≡ e / 16) (pendingb e v) e (e + v) (λ p. refl) (up_rest e v h)

-- one that is cleared is not, and the rest of the byte as before
pub clear_same : (e v : ℕ) → eventb v ≡ true → pendingb (without_event e v) v ≡ false
clear_same e v h = either (λ x. pendingb x v ≡ false) (pendingb e v) (e - v) e (down e v h) (λ p. p)

pub clear_other :
    (e v w : ℕ) → eventb v ≡ true → eventb w ≡ true → (v ≡ w → ⊥) → pendingb (without_event e v) w ≡ pendingb e w
clear_other e v w h k d =
    either (λ x. pendingb x w ≡ pendingb e w) (pendingb e v) (e - v) e
    (λ p. sym (up_other (e - v) v w h k d (down e v h p)) ∙ ap (λ x. pendingb x w) (back e v h p))
    (λ p. refl)

pub clear_rest : (e v : ℕ) → eventb v ≡ true → without_event e v / 16 ≡ e / 16
clear_rest e v h =
    either (λ x. x / 16 ≡ e / 16) (pendingb e v) (e - v) e
    (λ p. sym (up_rest (e - v) v h (down e v h p)) ∙ ap (λ x. x / 16) (back e v h p))
    (λ p. refl)
