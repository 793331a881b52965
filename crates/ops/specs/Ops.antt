-- Register operations, and the one way in which they are written out as numbers (document 01, "Volatile registers").
-- Assumes nothing.
use Rattle.std.specs.Prelude.{ℕ, ◌*◌, List, [], ◌∷◌, ◌++◌, length}
use Rattle.ops.specs.Numbers.{delay, cycles, kind_number, register_number, field_number}
use Rattle.ops.specs.declared.numbers.Kind.{Kind}
use Rattle.ops.specs.declared.numbers.Kind.TheVariants as kind
use Rattle.ops.specs.declared.numbers.Register.{Register}
use Rattle.ops.specs.declared.numbers.Field.{Field}

-- a field and the value that it is given
infix 70 ◌≔◌
pub data Setting : Type 0 where
  ◌≔◌ : Field → ℕ → Setting

-- An operation names its register, and its index: the endpoint, the place in `link_lmp_tx_data`, or 0. A write or a
-- modify sets at least one field, and its fields stand in the source's order; fields that a write doesn't name are 0.
-- `modify_if_differs` leaves a field alone that has the value already, `wait` is for so many cycles, `clear_bits` clears
-- those bits of a field that the value has.
pub data Op : Type 0 where
  write : Register → ℕ → Setting → List Setting → Op
  modify : Register → ℕ → Setting → List Setting → Op
  modify_if_differs : Register → ℕ → Setting → Op
  wait : ℕ → Op
  clear_bits : Register → ℕ → Setting → Op

-- a record: kind, register, index, field, value
abbrev pub rec : Kind → Register → ℕ → Setting → List ℕ
rec k r i (f ≔ v) = kind_number k ∷ register_number r ∷ i ∷ field_number f ∷ v ∷ []

-- the further fields of a write or a modify
abbrev pub further : Register → ℕ → List Setting → List ℕ
further r i [] = []
further r i (s ∷ ss) = rec kind.And r i s ++ further r i ss

-- the records of one operation
abbrev pub flat_one : Op → List ℕ
flat_one (write r i s ss) = rec kind.Write r i s ++ further r i ss
flat_one (modify r i s ss) = rec kind.Modify r i s ++ further r i ss
flat_one (modify_if_differs r i s) = rec kind.ModifyIfDiffers r i s
flat_one (wait n) = rec kind.Wait delay 0 (cycles ≔ n)
flat_one (clear_bits r i s) = rec kind.ClearBits r i s

-- the records of operations in sequence
abbrev pub flat : List Op → List ℕ
flat [] = []
flat (o ∷ os) = flat_one o ++ flat os

-- how many numbers n records take
abbrev pub records : ℕ → ℕ
records n = n * length (rec kind.Wait delay 0 (cycles ≔ 0))

-- refusal 10: a list has room for 128 records at least
abbrev pub list_numbers : ℕ
list_numbers = records 128
