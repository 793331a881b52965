-- The records of operations one after the other.
-- Assumes nothing.
use Rattle.std.specs.Prelude.{ℕ, ◌≡◌, refl, List, [], ◌∷◌, ◌++◌}
use Rattle.std.proofs.Common.{ap, ◌∙◌, sym, append_assoc}
use Rattle.ops.specs.Ops.{Op, flat_one, flat}

pub flat_append : (a b : List Op) → flat (a ++ b) ≡ flat a ++ flat b
flat_append [] b = refl
flat_append (o ∷ os) b = ap (λ (l : List ℕ). flat_one o ++ l) (flat_append os b) ∙ sym (append_assoc (flat_one o) (flat os) (flat b))
