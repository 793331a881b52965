-- Register operations by number, whichever it is, and the one way in which they are written out. `ops` has them by the names
-- of registers and fields; `Typed` leads from these to the numbers.
-- Assumes nothing.
use Rattle.std.specs.Prelude.{ℕ, List, [], ◌∷◌, ◌++◌}
use Rattle.ops.specs.Numbers.{delay, cycles, kind_number, register_number, field_number}
use Rattle.ops.specs.declared.numbers.Kind.TheVariants as kind

-- a field and the value that it is given
infix 70 ◌≔◌
pub data Setting : Type 0 where
  ◌≔◌ : ℕ → ℕ → Setting

-- The operations are those of `ops`: a register, an index, and the fields that are set.
pub data Op : Type 0 where
  write : ℕ → ℕ → Setting → List Setting → Op
  modify : ℕ → ℕ → Setting → List Setting → Op
  modify_if_differs : ℕ → ℕ → Setting → Op
  wait : ℕ → Op
  clear_bits : ℕ → ℕ → Setting → Op

-- a record: kind, register, index, field, value
abbrev pub rec : ℕ → ℕ → ℕ → Setting → List ℕ
rec k r i (f ≔ v) = k ∷ r ∷ i ∷ f ∷ v ∷ []

-- the further fields of a write or a modify
abbrev pub further : ℕ → ℕ → List Setting → List ℕ
further r i [] = []
further r i (s ∷ ss) = rec (kind_number kind.And) r i s ++ further r i ss

-- the records of one operation
abbrev pub flat_one : Op → List ℕ
flat_one (write r i s ss) = rec (kind_number kind.Write) r i s ++ further r i ss
flat_one (modify r i s ss) = rec (kind_number kind.Modify) r i s ++ further r i ss
flat_one (modify_if_differs r i s) = rec (kind_number kind.ModifyIfDiffers) r i s
flat_one (wait n) = rec (kind_number kind.Wait) (register_number delay) 0 (field_number cycles ≔ n)
flat_one (clear_bits r i s) = rec (kind_number kind.ClearBits) r i s

-- the records of operations in sequence
abbrev pub flat : List Op → List ℕ
flat [] = []
flat (o ∷ os) = flat_one o ++ flat os
