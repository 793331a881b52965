-- What a line of the listing program's input says, by document 01's words on that program.
-- Assumes nothing.
use Rattle.std.specs.Prelude.{ℕ, ◌+◌, ◌*◌, ◌-◌, ◌^◌, Bool, true, false, cond, ◌&&◌, ◌||◌, eqb, ltb, leb, length, get_or, drop, Option, Some, None}
use mathlib.Core.List.{List, [], ◌∷◌, foldl}
use Rattle.std.specs.List.{position_or_len, slice_split}
use Rattle.std.specs.Str.{bytes_eq}
use Rattle.tool_lines.specs.declared.Request.{Request}

abbrev pub tab : ℕ
tab = 9

abbrev pub line_feed : ℕ
line_feed = 10

-- where the line that begins at `from` ends: at its line feed, or with the bytes
abbrev pub line_end : List ℕ → ℕ → ℕ
line_end bytes from = from + position_or_len (λ b. eqb b line_feed) (drop from bytes)

-- the fields of a line: what stands between its tabs. There is one more than there are tabs.
unfoldable pub fields : List ℕ → List (List ℕ)
fields line = slice_split (λ b. eqb b tab) line

-- two words with the same bytes
abbrev pub sameb : List ℕ → List ℕ → Bool
sameb a b = bytes_eq a b

-- the directions, in ASCII
abbrev pub «in» : List ℕ
«in» = 105 ∷ 110 ∷ []

abbrev pub out : List ℕ
out = 111 ∷ 117 ∷ 116 ∷ []

-- the digits 0 to 9, in ASCII
abbrev pub digitb : ℕ → Bool
digitb b = leb 48 b && leb b 57

abbrev pub allb : {A : Type 0} → (A → Bool) → List A → Bool
allb p [] = true
allb p (x ∷ l) = p x && allb p l

-- a digit behind those that make up n
abbrev pub with_digit : ℕ → ℕ → ℕ
with_digit n b = n * 10 + (b - 48)

-- the number that digits make up
unfoldable pub decimal : List ℕ → ℕ
decimal digits = foldl with_digit 0 digits

-- a number: one or more digits, and it fits 32 bits
unfoldable pub numberb : List ℕ → Bool
numberb field = (ltb 0 (length field) && allb digitb field) && ltb (decimal field) (2 ^ 32)

-- the fields are direction, endpoint, M, own buffer, address, length and flag
unfoldable pub readable : List (List ℕ) → Bool
readable fs =
    (eqb (length fs) 7 && (sameb (get_or fs 0 []) «in» || sameb (get_or fs 0 []) out))
    && (allb numberb (drop 1 fs) && ltb (decimal (get_or fs 6 [])) 2)

-- what its seven fields ask for
abbrev pub asked : List (List ℕ) → Request
asked fs =
    record {
      incoming = sameb (get_or fs 0 []) «in»;
      endpoint = decimal (get_or fs 1 []);
      max_packet_size = decimal (get_or fs 2 []);
      own = decimal (get_or fs 3 []);
      address = decimal (get_or fs 4 []);
      length = decimal (get_or fs 5 []);
      zlp = eqb (decimal (get_or fs 6 [])) 1;
    }

-- a line without its line feed
unfoldable pub read_line : List ℕ → Option Request
read_line line = cond (readable (fields line)) (Some (asked (fields line))) None

-- whether a word is `in`, of the two directions
abbrev pub direction_of : List ℕ → Option Bool
direction_of word = cond (sameb word «in») (Some true) (cond (sameb word out) (Some false) None)

-- a number below 2 sets or clears a flag
abbrev pub flag_of : ℕ → Option Bool
flag_of n = cond (ltb n 2) (Some (eqb n 1)) None
