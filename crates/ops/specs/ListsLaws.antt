-- Operations added one after the other.
-- Assumes nothing.
use Rattle.std.specs.Prelude.{ℕ, ◌+◌, ◌≡◌, refl, List, [], ◌++◌}
use Rattle.std.proofs.Common.{◌∙◌, subst}
use Rattle.ops.specs.declared.OpList.{OpList}
use Rattle.ops.specs.Ops.{Op}
use Rattle.ops.specs.Wrote.{Wrote}
use Rattle.ops.specs.WroteLaws as wrote
use Rattle.ops.specs.Sequence.{up_to}
use Rattle.ops.specs.SequenceLaws as sequence
use Rattle.ops.specs.Lists.{Adds}

-- what was written into the lent list
pub written : {l l' : OpList} {os : List Op} → Adds l os l' → Wrote l.numbers.now l.end os l'.end l'.numbers.now
written p = record { end = p.end; list = p.list }

-- the same, where the list was begun with the numbers that are lent
pub lent : {ns : List ℕ} {l l' : OpList} {os : List Op} → l.numbers.now ≡ ns → l.end ≡ 0 → Adds l os l' → Wrote ns 0 os l'.end l'.numbers.now
lent {ns} {l} {l'} {os} n e p =
    subst (λ (v : List ℕ). Wrote v 0 os l'.end l'.numbers.now) n (subst (λ (i : ℕ). Wrote l.numbers.now i os l'.end l'.numbers.now) e (written p))

added : {l l' : OpList} {os : List Op} → l'.numbers.ghost_name ≡ l.numbers.ghost_name
    → Wrote l.numbers.now l.end os l'.end l'.numbers.now → Adds l os l'
added s w = record { same = s; end = w.end; list = w.list; room = wrote.wrote_length w }

-- operations, and then others behind these
infixr 60 ◌▹◌
pub ◌▹◌ : {l l₁ l₂ : OpList} {a b : List Op} → Adds l a l₁ → Adds l₁ b l₂ → Adds l (a ++ b) l₂
◌▹◌ p q = added (q.same ∙ p.same) (wrote.◌▹◌ (written p) (written q))

pub none : (l : OpList) → Adds l [] l
none l = added refl (wrote.none l.numbers.now l.end)

-- the same operations, said otherwise
pub same : {l l' : OpList} {a b : List Op} → a ≡ b → Adds l a l' → Adds l b l'
same {l} {l'} e p = subst (λ (os : List Op). Adds l os l') e p

pub up_to_start : (each : ℕ → List Op) (l : OpList) → Adds l (up_to each 0) l
up_to_start each l = added refl (sequence.up_to_start each l.numbers.now l.end)

pub up_to_next : {l l₁ l₂ : OpList} (each : ℕ → List Op) (n : ℕ) → Adds l (up_to each n) l₁ → Adds l₁ (each (n + 1)) l₂
    → Adds l (up_to each (n + 1)) l₂
up_to_next each n before this =
    added (this.same ∙ before.same) (sequence.up_to_next each n (written before) (written this))
