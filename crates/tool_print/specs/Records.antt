-- The lines that records of register operations are printed in.
-- Assumes nothing.
use Rattle.std.specs.Prelude.{ℕ, List, ◌++◌, slice_index, codes, decimal}
use Rattle.tool_names.specs.Names.{register_name}
use Rattle.tool_fields.specs.FieldNames.{field_name}
use Rattle.tool_print.specs.Text.{tab, line_feed}

-- what stands over the records
abbrev pub header_text : List ℕ
header_text = codes "kind" ++ tab ++ codes "register" ++ tab ++ codes "index" ++ tab ++ codes "field" ++ tab ++ codes "value" ++ line_feed

-- a record of these five numbers, register and field by name
abbrev pub record_text : ℕ → ℕ → ℕ → ℕ → ℕ → List ℕ
record_text kind register index field value =
    decimal kind ++ tab ++ register_name register ++ tab ++ decimal index ++ tab ++ field_name field ++ tab ++ decimal value ++ line_feed

-- a record at the start of these numbers
abbrev pub record_line : List ℕ → List ℕ
record_line numbers = record_text (slice_index numbers 0) (slice_index numbers 1) (slice_index numbers 2) (slice_index numbers 3) (slice_index numbers 4)
