-- By number and by name the same is written.
-- Assumes nothing.
use Rattle.std.specs.Prelude.{ℕ, List, [], ◌∷◌, ◌++◌, map, ◌≡◌, refl}
use Rattle.std.proofs.Common.{ap}
use Rattle.ops.specs.declared.numbers.Kind.TheVariants as kind
use Rattle.ops.specs.declared.numbers.Field.{Field}
use Rattle.ops.specs.declared.numbers.Register.{Register}
use Rattle.ops.specs.Numbers.{register_number, field_number}
use Rattle.ops.specs.Ops as typed
use Rattle.ops.specs.Wrote.{Row}
use Rattle.ops.specs.Wrote as typed_wrote
use Rattle.regs_control.specs.Control as control
use Rattle.regs_link.specs.Link as link
use Rattle.regs_numbers.specs.Ops.{further, flat_one, flat}
use Rattle.regs_numbers.specs.Wrote.{Wrote, row_record, row_records}
use Rattle.regs_numbers.specs.Control.{ep0_tx_answer_ops, ep0_rx_answer_ops, status_ack_ops}
use Rattle.regs_numbers.specs.Link.{link_ack_ops}
use Rattle.regs_numbers.specs.Typed.{setting_numbers, op_numbers, ops_numbers, row_numbers}

-- ---- rows

pub row_typed : (row : Row) → row_record (row_numbers row) ≡ typed_wrote.row_record row
row_typed row = refl

pub rows_typed : (rows : List Row) → row_records (map row_numbers rows) ≡ typed_wrote.row_records rows
rows_typed [] = refl
rows_typed (row ∷ rows) = ap (λ (l : List ℕ). typed_wrote.row_record row ++ l) (rows_typed rows)

-- ---- operations

further_typed : (r : Register) (i : ℕ) (ss : List typed.Setting) → further (register_number r) i (map setting_numbers ss) ≡ typed.further r i ss
further_typed r i [] = refl
further_typed r i (typed.◌≔◌ f v ∷ ss) = ap (λ (l : List ℕ). typed.rec kind.And r i (typed.◌≔◌ f v) ++ l) (further_typed r i ss)

pub op_typed : (o : typed.Op) → flat_one (op_numbers o) ≡ typed.flat_one o
op_typed (typed.write r i (typed.◌≔◌ f v) ss) = rw (further_typed r i ss)
op_typed (typed.modify r i (typed.◌≔◌ f v) ss) = rw (further_typed r i ss)
op_typed (typed.modify_if_differs r i (typed.◌≔◌ f v)) = refl
op_typed (typed.wait n) = refl
op_typed (typed.clear_bits r i (typed.◌≔◌ f v)) = refl

pub ops_typed : (os : List typed.Op) → flat (ops_numbers os) ≡ typed.flat os
ops_typed [] = refl
ops_typed (o ∷ os) = rw (op_typed o, ops_typed os)

-- what was written by number was written by name, and the other way round
pub wrote_typed : {l l' : List ℕ} {at r : ℕ} (os : List typed.Op) → Wrote l at (ops_numbers os) r l' → typed_wrote.Wrote l at os r l'
wrote_typed os w = record { end = rw (← ops_typed os) w.end; list = rw (← ops_typed os) w.list }

pub typed_wrote_numbers : {l l' : List ℕ} {at r : ℕ} (os : List typed.Op) → typed_wrote.Wrote l at os r l' → Wrote l at (ops_numbers os) r l'
typed_wrote_numbers os w = record { end = rw (ops_typed os) w.end; list = rw (ops_typed os) w.list }

-- ---- the four functions

pub ep0_tx_answer_typed : (answer : ℕ) → ep0_tx_answer_ops answer ≡ ops_numbers (control.ep0_tx_answer_ops answer)
ep0_tx_answer_typed answer = refl

pub ep0_rx_answer_typed : (answer : ℕ) → ep0_rx_answer_ops answer ≡ ops_numbers (control.ep0_rx_answer_ops answer)
ep0_rx_answer_typed answer = refl

pub status_ack_typed : (flag : Field) → status_ack_ops (field_number flag) ≡ ops_numbers (control.status_ack_ops flag)
status_ack_typed flag = refl

pub link_ack_typed : (flag : Field) → link_ack_ops (field_number flag) ≡ ops_numbers (link.link_ack_ops flag)
link_ack_typed flag = refl
