-- The numbers of operations and rows that `ops` has by name.
-- Assumes nothing.
use Rattle.std.specs.Prelude.{ℕ, List, [], ◌∷◌, map}
use Rattle.ops.specs.Numbers.{kind_number, register_number, field_number}
use Rattle.ops.specs.Ops as typed
use Rattle.ops.specs.Wrote.{Row}
use Rattle.regs_numbers.specs.Ops.{Setting, Op, write, modify, modify_if_differs, wait, clear_bits, ◌≔◌}

abbrev pub setting_numbers : typed.Setting → Setting
setting_numbers (typed.◌≔◌ f v) = field_number f ≔ v

abbrev pub op_numbers : typed.Op → Op
op_numbers (typed.write r i s ss) = write (register_number r) i (setting_numbers s) (map setting_numbers ss)
op_numbers (typed.modify r i s ss) = modify (register_number r) i (setting_numbers s) (map setting_numbers ss)
op_numbers (typed.modify_if_differs r i s) = modify_if_differs (register_number r) i (setting_numbers s)
op_numbers (typed.wait n) = wait n
op_numbers (typed.clear_bits r i s) = clear_bits (register_number r) i (setting_numbers s)

abbrev pub ops_numbers : List typed.Op → List Op
ops_numbers os = map op_numbers os

abbrev pub row_numbers : Row → List ℕ
row_numbers row = kind_number row.0 ∷ register_number row.1 ∷ row.2 ∷ field_number row.3 ∷ row.4 ∷ []
