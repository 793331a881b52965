-- The device address: what the field `dev_addr` of `usbss_ctrl` holds behind each of some operations, in turn. That register stands
-- alone, so no index is looked at, and it has no field `all` (docs/REGISTERS.md).
-- Assumes nothing.
use Rattle.std.specs.Prelude.{ℕ, ◌-◌, Bool, cond, List, [], ◌∷◌, ◌++◌, length, replicate, eqb, ◌≡◌, bit_and, Option, Some, None}
use Rattle.ops.specs.declared.numbers.Field.{Field}
use Rattle.ops.specs.Numbers as n
use Rattle.ops.specs.Ops.{Op, Setting, ◌≔◌, write, modify, modify_if_differs, wait, clear_bits}
use Rattle.history_ops.specs.Recorded.{same_register}

abbrev pub names_address : Field → Bool
names_address f = eqb (n.field_number f) (n.field_number n.dev_addr)

-- behind settings, from a on
abbrev pub set_by : ℕ → List Setting → ℕ
set_by a [] = a
set_by a ((f ≔ v) ∷ ss) = set_by (cond (names_address f) v a) ss

-- behind a clearing of the bits that v has
abbrev pub cleared_by : ℕ → Setting → ℕ
cleared_by a (f ≔ v) = cond (names_address f) (a - bit_and a v) a

-- Behind an operation, from a on. A write sets the fields that it doesn't name to 0, every other kind leaves them.
unfoldable pub held_by : ℕ → Op → ℕ
held_by a (write q i s ss) = cond (same_register q n.usbss_ctrl) (set_by 0 (s ∷ ss)) a
held_by a (modify q i s ss) = cond (same_register q n.usbss_ctrl) (set_by a (s ∷ ss)) a
held_by a (modify_if_differs q i s) = cond (same_register q n.usbss_ctrl) (set_by a (s ∷ [])) a
held_by a (wait k) = a
held_by a (clear_bits q i s) = cond (same_register q n.usbss_ctrl) (cleared_by a s) a

-- behind the last of them
unfoldable pub held : ℕ → List Op → ℕ
held a [] = a
held a (o ∷ os) = held (held_by a o) os

-- behind each of them
unfoldable pub through : ℕ → List Op → List ℕ
through a [] = []
through a (o ∷ os) = held_by a o ∷ through (held_by a o) os

-- an address a stays: behind each of them it is a, so none gives another that a later one takes back
abbrev pub Stays : ℕ → List Op → Type 0
Stays a ops = through a ops ≡ replicate (length ops) a

-- It goes from a to b in one step, or stays where they are the same: behind the first of them it is a, behind the others b, and b at
-- the end.
pub record Moves (a b : ℕ) (ops : List Op) : Type 0 where
  pub first : ℕ
  pub others : ℕ
  pub each : through a ops ≡ replicate first a ++ replicate others b
  pub end : held a ops ≡ b

-- any address stays
abbrev pub Keeps : List Op → Type 0
Keeps ops = (a : ℕ) → Stays a ops

-- the address that waits, if one does, else a
abbrev pub due : Option ℕ → ℕ → ℕ
due None a = a
due (Some b) a = b
