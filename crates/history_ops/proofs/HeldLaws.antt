-- What lists of operations do to the device address, from one operation to the next.
-- Assumes nothing.
use Rattle.std.specs.Prelude.{ℕ, zero, suc, ◌+◌, Bool, true, false, cond, List, [], ◌∷◌, ◌++◌, length, get_or, drop, replicate, ◌⊎◌, ◌≡◌, refl}
use Rattle.std.proofs.Common.{ap, sym, subst, ◌∙◌, inl, inr, arith}
use Rattle.std.proofs.lemmas.List.{append_assoc, length-append, length-replicate, replicate-append-replicate}
use Rattle.ops.specs.Numbers as n
use Rattle.ops.specs.Ops.{Op, ◌≔◌, write, modify, modify_if_differs, clear_bits}
use Rattle.ops.specs.Sequence.{up_to}
use Rattle.history_ops.specs.Held.{held_by, held, through, Stays, Moves, Keeps}

-- ---- the kinds of operations

-- a write of other fields gives 0, one of the address that address, and a modify of other fields leaves it
pub write_others : (a i v : ℕ) → held_by a (write n.usbss_ctrl i (n.dma_en ≔ v) []) ≡ 0
unfolding held_by
write_others a i v = refl

pub write_sets : (a i v : ℕ) → held_by a (write n.usbss_ctrl i (n.dma_en ≔ 1) (n.dev_addr ≔ v ∷ [])) ≡ v
unfolding held_by
write_sets a i v = refl

pub modify_others : (a i v : ℕ) → held_by a (modify n.usbss_ctrl i (n.dma_en ≔ v) []) ≡ a
unfolding held_by
modify_others a i v = refl

pub modify_sets : (a i v : ℕ) → held_by a (modify n.usbss_ctrl i (n.dma_en ≔ 1) (n.dev_addr ≔ v ∷ [])) ≡ v
unfolding held_by
modify_sets a i v = refl

pub modify_if_differs_sets : (a i v : ℕ) → held_by a (modify_if_differs n.usbss_ctrl i (n.dev_addr ≔ v)) ≡ v
unfolding held_by
modify_if_differs_sets a i v = refl

-- bits that are cleared
pub clear_bits_clears : (i : ℕ) → held_by 0x7f (clear_bits n.usbss_ctrl i (n.dev_addr ≔ 0x0f)) ≡ 0x70
unfolding held_by
clear_bits_clears i = refl

-- ---- one list behind the other

pub held_append : (a : ℕ) (x y : List Op) → held a (x ++ y) ≡ held (held a x) y
unfolding held
held_append a [] y = refl
held_append a (o ∷ os) y = held_append (held_by a o) os y

pub through_append : (a : ℕ) (x y : List Op) → through a (x ++ y) ≡ through a x ++ through (held a x) y
unfolding through held
through_append a [] y = refl
through_append a (o ∷ os) y = ap (λ (l : List ℕ). held_by a o ∷ l) (through_append (held_by a o) os y)

pub length-through : (a : ℕ) (ops : List Op) → length (through a ops) ≡ length ops
unfolding through
length-through a [] = refl
length-through a (o ∷ os) = ap (λ (k : ℕ). suc k) (length-through (held_by a o) os)

-- ---- an address that stays

pub stays_none : (a : ℕ) → Stays a []
unfolding through
stays_none a = refl

-- it is there at the end
pub stays_held : {a : ℕ} (ops : List Op) → Stays a ops → held a ops ≡ a
unfolding through held
stays_held [] h = refl
stays_held {a} (o ∷ os) h =
    let p : held_by a o ≡ a = ap (λ (l : List ℕ). get_or l 0 0) h in
    let q : through (held_by a o) os ≡ replicate (length os) a = ap (λ (l : List ℕ). drop 1 l) h in
    rw p (stays_held os (subst (λ (k : ℕ). through k os ≡ replicate (length os) a) p q))

pub stays_append : (a : ℕ) (x y : List Op) → Stays a x → Stays a y → Stays a (x ++ y)
stays_append a x y h k =
    through_append a x y ∙ rw (stays_held x h, h, k) (replicate-append-replicate (length x) (length y) a ∙ ap (λ (n : ℕ). replicate n a) (sym (length-append x y)))

pub keeps_none : Keeps []
keeps_none a = stays_none a

pub keeps_append : (x y : List Op) → Keeps x → Keeps y → Keeps (x ++ y)
keeps_append x y h k a = stays_append a x y (h a) (k a)

pub keeps_cond : (c : Bool) (x y : List Op) → Keeps x → Keeps y → Keeps (cond c x y)
keeps_cond true x y h k = h
keeps_cond false x y h k = k

pub keeps_up_to : (each : ℕ → List Op) → ((i : ℕ) → Keeps (each i)) → (k : ℕ) → Keeps (up_to each k)
unfolding up_to
keeps_up_to each h zero = keeps_none
keeps_up_to each h (suc k) = keeps_append (up_to each k) (each (suc k)) (keeps_up_to each h k) (h (suc k))

-- ---- an address that moves

pub moves_held : {a b : ℕ} {ops : List Op} → Moves a b ops → held a ops ≡ b
moves_held m = m.end

pub moves_to : {a b c : ℕ} {ops : List Op} → Moves a b ops → b ≡ c → Moves a c ops
moves_to {a} {b} {c} {ops} m e = subst (λ (k : ℕ). Moves a k ops) e m

-- to where it was, if it stays
pub moves_still : {a : ℕ} {ops : List Op} → Stays a ops → Moves a a ops
moves_still {a} {ops} h = record { first = 0; others = length ops; each = h; end = stays_held ops h }

-- and one that comes to where it was has stayed
pub moves_stays : {a : ℕ} {ops : List Op} → Moves a a ops → Stays a ops
moves_stays {a} {ops} m =
    let all : through a ops ≡ replicate (m.first + m.others) a = m.each ∙ replicate-append-replicate m.first m.others a in
    all
    ∙ ap (λ (n : ℕ). replicate n a)
    (sym (length-replicate (m.first + m.others) a) ∙ sym (ap (λ (l : List ℕ). length l) all) ∙ length-through a ops)

-- among operations that keep it: those before it keep the one that was, those behind it the one that is given
pub moves_behind : {a b : ℕ} (x y : List Op) → Stays a x → Moves a b y → Moves a b (x ++ y)
moves_behind {a} {b} x y h m =
    record {
      first = length x + m.first;
      others = m.others;
      each =
          through_append a x y
          ∙ rw (stays_held x h, h, m.each)
          (sym (append_assoc (replicate (length x) a) (replicate m.first a) (replicate m.others b))
          ∙ ap (λ (l : List ℕ). l ++ replicate m.others b) (replicate-append-replicate (length x) m.first a));
      end = held_append a x y ∙ rw (stays_held x h) m.end;
    }

pub moves_before : {a b : ℕ} (x y : List Op) → Moves a b x → Stays b y → Moves a b (x ++ y)
moves_before {a} {b} x y m k =
    record {
      first = m.first;
      others = m.others + length y;
      each =
          through_append a x y
          ∙ rw (m.end, m.each, k)
          (append_assoc (replicate m.first a) (replicate m.others b) (replicate (length y) b)
          ∙ ap (λ (l : List ℕ). replicate m.first a ++ l) (replicate-append-replicate m.others (length y) b));
      end = held_append a x y ∙ rw m.end (stays_held y k);
    }

pub moves_cond : {a b d : ℕ} (c : Bool) (x y : List Op) → Moves a b x → Moves a d y → Moves a (cond c b d) (cond c x y)
moves_cond true x y m k = m
moves_cond false x y m k = k

-- ---- what doesn't move it in one step

module _ (a b i : ℕ) where
  -- a third address on the way
  pub no_third : (c : ℕ) → Moves a b (modify n.usbss_ctrl i (n.dev_addr ≔ c) [] ∷ modify n.usbss_ctrl i (n.dev_addr ≔ b) [] ∷ []) → (c ≡ a) ⊎ (c ≡ b)
  unfolding through held_by
  no_third c m = go m.first m.others m.each
    where
      go : (f k : ℕ) → c ∷ b ∷ [] ≡ replicate f a ++ replicate k b → (c ≡ a) ⊎ (c ≡ b)
      go zero zero h = absurd (omega (arith, ap (λ (l : List ℕ). length l) h))
      go zero (suc k) h = inr (ap (λ (l : List ℕ). get_or l 0 0) h)
      go (suc f) k h = inl (ap (λ (l : List ℕ). get_or l 0 0) h)

  -- and a way back, behind which it is given again
  pub no_return : Moves a b (modify n.usbss_ctrl i (n.dev_addr ≔ b) [] ∷ modify n.usbss_ctrl i (n.dev_addr ≔ a) [] ∷ modify n.usbss_ctrl i (n.dev_addr ≔ b) [] ∷ []) → b ≡ a
  unfolding through held_by
  no_return m = go m.first m.others m.each
    where
      go : (f k : ℕ) → b ∷ a ∷ b ∷ [] ≡ replicate f a ++ replicate k b → b ≡ a
      go zero zero h = absurd (omega (arith, ap (λ (l : List ℕ). length l) h))
      go zero (suc zero) h = absurd (omega (arith, ap (λ (l : List ℕ). length l) h))
      go zero (suc (suc k)) h = sym (ap (λ (l : List ℕ). get_or l 1 0) h)
      go (suc f) k h = ap (λ (l : List ℕ). get_or l 0 0) h
