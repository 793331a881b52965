-- What is read of a line by places: its word, and six numbers one behind the other.
-- Assumes nothing.
use Rattle.std.specs.Prelude.{ℕ, Bool, ◌&&◌, ◌||◌, List, [], ◌∷◌, ◌≡◌, ltb, get_or, drop}
use Rattle.tool_lines.specs.Line.{fields, sameb, «in», out, numberb}
use Rattle.tool_lines.specs.Digits.{value_of}
use Rattle.tool_lines.specs.Fields.{noneb}
use Rattle.tool_laws.specs.Fields.{rest, NumberAt, ReadAt}

-- the word goes up to `from`
pub record Read (line word : List ℕ) (from : ℕ) (incoming outgoing : Bool) (e m o a l z : NumberAt) : Type 0 where
  pub word_is : fields line ≡ word ∷ rest line from
  pub in_is : incoming ≡ sameb word «in»
  pub out_is : outgoing ≡ sameb word out
  pub e_is : ReadAt line from e
  pub m_is : ReadAt line e.next m
  pub o_is : ReadAt line m.next o
  pub a_is : ReadAt line o.next a
  pub l_is : ReadAt line a.next l
  pub z_is : ReadAt line l.next z

-- number k is that of field k
abbrev pub Is : List (List ℕ) → ℕ → NumberAt → Type 0
Is fs k n = (n.fits ≡ numberb (get_or fs k [])) × (n.value ≡ value_of (get_or fs k []))

pub record Told (fs : List (List ℕ)) (incoming outgoing whole : Bool) (e m o a l z : NumberAt) : Type 0 where
  pub in_is : incoming ≡ sameb (get_or fs 0 []) «in»
  pub out_is : outgoing ≡ sameb (get_or fs 0 []) out
  pub e_is : Is fs 1 e
  pub m_is : Is fs 2 m
  pub o_is : Is fs 3 o
  pub a_is : Is fs 4 a
  pub l_is : Is fs 5 l
  pub z_is : Is fs 6 z
  pub whole_is : whole ≡ noneb (drop 7 fs)

-- the tests of what was read
abbrev pub test : Bool → Bool → Bool → NumberAt → NumberAt → NumberAt → NumberAt → NumberAt → NumberAt → Bool
test incoming outgoing whole e m o a l z =
    (((incoming || outgoing) && (((((e.fits && m.fits) && o.fits) && a.fits) && l.fits) && z.fits)) && ltb z.value 2) && whole
