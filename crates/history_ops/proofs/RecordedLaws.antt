-- What lists of operations record: every kind of operation shows, and one list goes behind the other.
-- Assumes nothing.
use Rattle.std.specs.Prelude.{ℕ, zero, suc, Bool, true, false, ◌&&◌, cond, List, [], ◌∷◌, ◌++◌, eqb, ◌≡◌, refl, Option, Some, None}
use Rattle.std.proofs.Common.{ap, ◌∙◌, sym, append_assoc, append-nil}
use Rattle.std.proofs.lemmas.Bool.{eq-eqb}
use Rattle.ops.specs.declared.numbers.Register.{Register}
use Rattle.ops.specs.Numbers as n
use Rattle.ops.specs.Ops.{Op, Setting, write, modify, modify_if_differs, clear_bits}
use Rattle.ops.specs.Sequence.{up_to}
use Rattle.transfer_chain.specs.declared.Chain.{Chain}
use Rattle.history_ops.specs.Recorded.{Recorded, none, same_register, values, given_by, given, recorded, Silent, noted, same_slot, handed}

-- Every kind of operation shows that gives a register a value.
module _ (r : Register) (e : ℕ) (s : Setting) where
  own_index : same_register r r && eqb e e ≡ true
  own_index = rw (eq-eqb (n.register_number r) (n.register_number r) refl, eq-eqb e e refl)

  pub write_shows : (ss : List Setting) → given_by r e (write r e s ss) ≡ values (s ∷ ss)
  unfolding given_by
  write_shows ss = rw own_index

  pub modify_shows : (ss : List Setting) → given_by r e (modify r e s ss) ≡ values (s ∷ ss)
  unfolding given_by
  modify_shows ss = rw own_index

  pub modify_if_differs_shows : given_by r e (modify_if_differs r e s) ≡ values (s ∷ [])
  unfolding given_by
  modify_if_differs_shows = rw own_index

  pub clear_bits_shows : given_by r e (clear_bits r e s) ≡ values (s ∷ [])
  unfolding given_by
  clear_bits_shows = rw own_index

-- ---- one list behind the other

abbrev pub joined : Recorded → Recorded → Recorded
joined x y = record { dma = x.dma ++ y.dma; packets = x.packets ++ y.packets; last = x.last ++ y.last }

pub given_append : (r : Register) (e : ℕ) (a b : List Op) → given r e (a ++ b) ≡ given r e a ++ given r e b
unfolding given
given_append r e [] b = refl
given_append r e (o ∷ os) b = ap (λ (l : List ℕ). given_by r e o ++ l) (given_append r e os b) ∙ sym (append_assoc (given_by r e o) (given r e os) (given r e b))

-- by the parts
pub alike : {x y x' y' x'' y'' : List ℕ} → x ≡ y → x' ≡ y' → x'' ≡ y''
    → ◌≡◌ {A = Recorded} (record { dma = x; packets = x'; last = x'' }) (record { dma = y; packets = y'; last = y'' })
alike p q r = rw (p, q, r) refl

pub recorded_append : (incoming : Bool) (e : ℕ) (a b : List Op) → recorded incoming e (a ++ b) ≡ joined (recorded incoming e a) (recorded incoming e b)
unfolding recorded
recorded_append true e a b = alike (given_append _ e a b) (given_append _ e a b) (given_append _ e a b)
recorded_append false e a b = alike (given_append _ e a b) (given_append _ e a b) refl

pub recorded_cond : (incoming : Bool) (e : ℕ) (c : Bool) (a b : List Op) → recorded incoming e (cond c a b) ≡ cond c (recorded incoming e a) (recorded incoming e b)
recorded_cond incoming e true a b = refl
recorded_cond incoming e false a b = refl

pub silent_none : Silent []
unfolding recorded given
silent_none true e = refl
silent_none false e = refl

pub silent_append : (a b : List Op) → Silent a → Silent b → Silent (a ++ b)
silent_append a b h k incoming e = recorded_append incoming e a b ∙ rw (h incoming e, k incoming e)

-- a chain among operations that record none
pub behind_silent : (a b : List Op) → Silent a → (incoming : Bool) (e : ℕ) → recorded incoming e (a ++ b) ≡ recorded incoming e b
behind_silent a b h incoming e = recorded_append incoming e a b ∙ rw (h incoming e)

pub before_silent : (a b : List Op) → Silent b → (incoming : Bool) (e : ℕ) → recorded incoming e (a ++ b) ≡ recorded incoming e a
before_silent a b h incoming e =
    recorded_append incoming e a b
    ∙ rw (h incoming e, append-nil (recorded incoming e a).dma, append-nil (recorded incoming e a).packets, append-nil (recorded incoming e a).last)

pub silent_cond : (c : Bool) (a b : List Op) → Silent a → Silent b → Silent (cond c a b)
silent_cond true a b h k = h
silent_cond false a b h k = k

pub silent_up_to : (each : ℕ → List Op) → ((i : ℕ) → Silent (each i)) → (k : ℕ) → Silent (up_to each k)
unfolding up_to
silent_up_to each h zero = silent_none
silent_up_to each h (suc k) = silent_append (up_to each k) (each (suc k)) (silent_up_to each h k) (h (suc k))

-- ---- a chain handed over

-- its own endpoint and direction see it,
pub handed_here : (e : ℕ) (incoming : Bool) (k : Chain) → handed e incoming (Some k) incoming e ≡ noted incoming k
handed_here e true k = rw (eq-eqb e e refl)
handed_here e false k = rw (eq-eqb e e refl)

-- others see none
pub handed_there : (i : ℕ) (way : Bool) (k : Option Chain) (incoming : Bool) (e : ℕ) → same_slot i way e incoming ≡ false → handed i way k incoming e ≡ none
handed_there i way None incoming e h = refl
handed_there i way (Some k) incoming e h = rw h
