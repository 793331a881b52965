-- Lines, and what they say: the paper's example, lines at the edges, and damaged ones.
-- Assumes nothing.
use Rattle.std.specs.Prelude.{ℕ, Bool, true, false, List, [], ◌∷◌, map, ◌≡◌, refl, Option, Some, None}
use Prim.Native.Char.{code}
use Prim.Native.String.{String, [] as empty, ◌∷◌ as ◌before◌}
use Rattle.tool_lines.specs.declared.Request.{Request}
use Rattle.tool_lines.specs.Line.{fields, decimal, numberb, readable, read_line, line_end}

-- a text's bytes: each character here is ASCII
abbrev bytes : String → List ℕ
bytes empty = []
bytes (c before s) = code c ∷ bytes s

infix 70 ◌says◌
pub record Example : Type 0 where
  pub line : String
  pub says : Option Request

abbrev ◌says◌ : String → Option Request → Example
line says answer = record { line = line; says = answer }

-- a request in the sequence of the fields
abbrev asks : Bool → ℕ → ℕ → ℕ → ℕ → ℕ → Bool → Option Request
asks incoming endpoint size own address length zlp =
    Some (record {
      incoming = incoming;
      endpoint = endpoint;
      max_packet_size = size;
      own = own;
      address = address;
      length = length;
      zlp = zlp;
    })

abbrev pub examples : List Example
examples =
    "in\t1\t1024\t537527296\t537530368\t1025\t1" says asks true 1 1024 537527296 537530368 1025 true
    ∷ "out\t7\t64\t0\t0\t0\t0" says asks false 7 64 0 0 0 false
    -- leading zeros, the largest number
    ∷ "in\t01\t4294967295\t00\t3\t4\t001" says asks true 1 4294967295 0 3 4 true
    ∷ "in\t1\t4294967296\t0\t3\t4\t1" says None
    ∷ "in\t1\t2\t0\t3\t4\t2" says None
    ∷ "in\t1\t2\t0\t3\t4" says None
    ∷ "in\t1\t2\t0\t3\t4\t1\t" says None
    ∷ "in\t1\t\t0\t3\t4\t1" says None
    ∷ "in\t1\t2\t-1\t3\t4\t1" says None
    ∷ "in\t1\t2\t0:\t3\t4\t1" says None
    ∷ "in\t1\t2\t0\t3\t4\t1\r" says None
    ∷ "In\t1\t2\t0\t3\t4\t1" says None
    ∷ "in 1 2 0 3 4 1" says None
    ∷ "" says None
    ∷ []

pub said : map (λ (e : Example). read_line (bytes e.line)) examples ≡ map (λ (e : Example). e.says) examples
unfolding fields decimal numberb readable read_line
said = refl

-- the lines of a text with an empty one and a last one without line feed; past the end nothing is found
pub ends : map (line_end (bytes "in\n\nout")) (0 ∷ 2 ∷ 3 ∷ 4 ∷ 7 ∷ 9 ∷ []) ≡ (2 ∷ 2 ∷ 3 ∷ 7 ∷ 7 ∷ 9 ∷ [])
ends = refl
