-- Operations that work on none of the registers record no chain, and each of them leaves the address.
-- Assumes nothing.
use Rattle.std.specs.Prelude.{ℕ, Bool, true, false, ◌||◌, cond, List, [], ◌∷◌, ◌++◌, ◌≡◌, refl}
use Rattle.std.proofs.Common.{◌∙◌, sym}
use Rattle.std.proofs.lemmas.Bool.{or_parts, or_from, eqb-true, true≢false}
use Rattle.ops.specs.declared.numbers.Register.{Register}
use Rattle.ops.specs.Numbers as n
use Rattle.ops.specs.Ops.{Op, write, modify, modify_if_differs, wait, clear_bits}
use Rattle.ops.specs.Sequence.{up_to}
use Rattle.history_ops.specs.Recorded.{same_register, given_by, given, recorded, Silent}
use Rattle.history_ops.specs.Held.{held_by, through, Keeps}
use Rattle.history_ops.specs.Touched.{target, among, touches, chain_registers, address_registers, both_registers, Quiet}
use Rattle.history_ops.proofs.RecordedLaws.{alike, silent_none, silent_append, silent_cond, silent_up_to}
use Rattle.history_ops.proofs.HeldLaws.{keeps_none, keeps_append, keeps_cond, keeps_up_to}

pub touches_append : (rs : List Register) (a b : List Op) → touches rs (a ++ b) ≡ touches rs a || touches rs b
unfolding touches
touches_append rs [] b = refl
touches_append rs (o ∷ os) b = go (among rs (target o)) (touches_append rs os b)
  where
    go : (c : Bool) → touches rs (os ++ b) ≡ touches rs os || touches rs b → (c || touches rs (os ++ b)) ≡ (c || touches rs os) || touches rs b
    go true h = refl
    go false h = h

pub touches_cond : (rs : List Register) (c : Bool) (a b : List Op) → touches rs (cond c a b) ≡ cond c (touches rs a) (touches rs b)
touches_cond rs true a b = refl
touches_cond rs false a b = refl

-- what is none of some registers is none of fewer
narrower : (rs fewer : List Register) → ((q : Register) → among rs q ≡ false → among fewer q ≡ false)
    → (ops : List Op) → touches rs ops ≡ false → touches fewer ops ≡ false
unfolding touches
narrower rs fewer within [] h = refl
narrower rs fewer within (o ∷ os) h =
    let p = or_parts (among rs (target o)) (touches rs os) h in
    or_from (among fewer (target o)) (touches fewer os) (within (target o) p.0) (narrower rs fewer within os p.1)

-- one that is none of some is none that is one of them
among_same : (rs : List Register) (q r : Register) → n.register_number q ≡ n.register_number r → among rs q ≡ among rs r
among_same [] q r h = refl
among_same (x ∷ rs) q r h = rw (h, among_same rs q r h)

apart : (rs : List Register) (q r : Register) → among rs r ≡ true → among rs q ≡ false → same_register q r ≡ false
apart rs q r one none = go (same_register q r) refl
  where
    go : (b : Bool) → same_register q r ≡ b → b ≡ false
    go false h = refl
    go true h = absurd (true≢false (sym one ∙ sym (among_same rs q r (eqb-true (n.register_number q) (n.register_number r) h)) ∙ none))

-- ---- chains

elsewhere : (r : Register) (e : ℕ) (o : Op) → same_register (target o) r ≡ false → given_by r e o ≡ []
unfolding given_by
elsewhere r e (write q i s ss) h = rw h
elsewhere r e (modify q i s ss) h = rw h
elsewhere r e (modify_if_differs q i s) h = rw h
elsewhere r e (wait k) h = refl
elsewhere r e (clear_bits q i s) h = rw h

given_nothing : (rs : List Register) (r : Register) (e : ℕ) → among rs r ≡ true → (ops : List Op) → touches rs ops ≡ false → given r e ops ≡ []
unfolding touches given
given_nothing rs r e one [] h = refl
given_nothing rs r e one (o ∷ os) h =
    let p = or_parts (among rs (target o)) (touches rs os) h in
    rw (elsewhere r e o (apart rs (target o) r one p.0), given_nothing rs r e one os p.1)

pub silent_untouched : (ops : List Op) → touches chain_registers ops ≡ false → Silent ops
unfolding recorded
silent_untouched ops h true e =
    alike (given_nothing chain_registers _ e refl ops h) (given_nothing chain_registers _ e refl ops h) (given_nothing chain_registers _ e refl ops h)
silent_untouched ops h false e = alike (given_nothing chain_registers _ e refl ops h) (given_nothing chain_registers _ e refl ops h) refl

-- ---- the address

held_elsewhere : (a : ℕ) (o : Op) → among address_registers (target o) ≡ false → held_by a o ≡ a
unfolding held_by
held_elsewhere a (write q i s ss) h = rw (or_parts (same_register q n.usbss_ctrl) false h).0
held_elsewhere a (modify q i s ss) h = rw (or_parts (same_register q n.usbss_ctrl) false h).0
held_elsewhere a (modify_if_differs q i s) h = rw (or_parts (same_register q n.usbss_ctrl) false h).0
held_elsewhere a (wait k) h = refl
held_elsewhere a (clear_bits q i s) h = rw (or_parts (same_register q n.usbss_ctrl) false h).0

pub keeps_untouched : (ops : List Op) → touches address_registers ops ≡ false → Keeps ops
unfolding touches through
keeps_untouched [] h a = refl
keeps_untouched (o ∷ os) h a =
    let p = or_parts (among address_registers (target o)) (touches address_registers os) h in
    rw (held_elsewhere a o p.0, keeps_untouched os p.1 a)

-- ---- both

pub quiet_untouched : (ops : List Op) → touches both_registers ops ≡ false → Quiet ops
quiet_untouched ops h =
    record {
      silent = silent_untouched ops (narrower both_registers chain_registers chain ops h);
      keeps = keeps_untouched ops (narrower both_registers address_registers address ops h);
    }
  where
    chain : (q : Register) → among both_registers q ≡ false → among chain_registers q ≡ false
    chain q k = (or_parts (same_register q n.usbss_ctrl) (among chain_registers q) k).1

    address : (q : Register) → among both_registers q ≡ false → among address_registers q ≡ false
    address q k = or_from (same_register q n.usbss_ctrl) false (or_parts (same_register q n.usbss_ctrl) (among chain_registers q) k).0 refl

pub quiet_none : Quiet []
quiet_none = record { silent = silent_none; keeps = keeps_none }

pub quiet_append : (a b : List Op) → Quiet a → Quiet b → Quiet (a ++ b)
quiet_append a b h k = record { silent = silent_append a b h.silent k.silent; keeps = keeps_append a b h.keeps k.keeps }

pub quiet_cond : (c : Bool) (a b : List Op) → Quiet a → Quiet b → Quiet (cond c a b)
quiet_cond c a b h k = record { silent = silent_cond c a b h.silent k.silent; keeps = keeps_cond c a b h.keeps k.keeps }

pub quiet_up_to : (each : ℕ → List Op) → ((i : ℕ) → Quiet (each i)) → (k : ℕ) → Quiet (up_to each k)
quiet_up_to each h k = record { silent = silent_up_to each (λ i. (h i).silent) k; keeps = keeps_up_to each (λ i. (h i).keeps) k }
