-- What `as u32` gives at the enums is their number.
-- Assumes nothing.
use Rattle.std.specs.Prelude.{◌+◌, ◌≡◌}
use Rattle.std.proofs.Common.{arith}
use denote.Enum.Declared.{tag_of}
use Rattle.ops.specs.declared.numbers.Kind.{Kind}
use Rattle.ops.specs.declared.numbers.Register.{Register}
use Rattle.ops.specs.declared.numbers.Field.{Field}
use Rattle.ops.specs.declared.numbers.Value.{Value}
use Rattle.ops.specs.contracts.numbers.Kind as kind
use Rattle.ops.specs.contracts.numbers.Register as register
use Rattle.ops.specs.contracts.numbers.Field as field
use Rattle.ops.specs.contracts.numbers.Value as value
use Rattle.ops.specs.Numbers.{kind_number, register_number, field_number, value_number}

pub kind_tag : (k : Kind) → tag_of kind.the_type k + 1 ≡ kind_number k
kind_tag k = grind arith

pub register_tag : (r : Register) → tag_of register.the_type r + 1 ≡ register_number r
register_tag r = grind arith

pub field_tag : (f : Field) → tag_of field.the_type f + 1 ≡ field_number f
field_tag f = grind arith

pub value_tag : (v : Value) → tag_of value.the_type v + 1 ≡ value_number v
value_tag v = grind arith
