-- A line's fields, read in turn.
-- Assumes nothing.
use Rattle.std.specs.Prelude.{ℕ, zero, suc, Bool, true, false, cond, ◌&&◌, ◌||◌, List, [], ◌∷◌, Option, Some, None, ◌≡◌, refl, eqb, ltb, length, get_or, drop}
use Rattle.std.specs.Option.{option_and_then}
use Rattle.std.proofs.Common.{sym, ◌∙◌, arith, ne_eqb}
use Rattle.std.proofs.Math.Bool.{and-true, and-false}
use Rattle.tool_lines.specs.declared.Request.{Request}
use Rattle.tool_lines.specs.Line.{fields, sameb, «in», out, decimal, numberb, readable, read_line, direction_of, flag_of}
use Rattle.tool_lines.specs.Digits.{value_of, number_of}
use Rattle.tool_lines.specs.Fields.{first_field, noneb}

-- the request for a direction, five numbers and a flag
abbrev pub asking : Bool → (e m o a l : ℕ) → Bool → Request
asking incoming e m o a l zlp =
    record {
      incoming = incoming;
      endpoint = e;
      max_packet_size = m;
      own = o;
      address = a;
      length = l;
      zlp = zlp;
    }

-- a request, if no field follows
abbrev pub ended : Request → Bool → Option Request
ended request none = cond none (Some request) None

-- what six numbers ask for, the last read first: the sixth is a flag
abbrev pub flagged : Bool → List ℕ → Bool → Option Request
flagged incoming (zlp ∷ length ∷ address ∷ own ∷ size ∷ endpoint ∷ []) none =
    option_and_then (λ set. ended (asking incoming endpoint size own address length set) none) (flag_of zlp)
flagged incoming numbers none = None

-- what is asked for where k numbers follow those that were read
unfoldable pub numbered : ℕ → Bool → List ℕ → List (List ℕ) → Option Request
numbered zero incoming ns fs = flagged incoming ns (noneb fs)
numbered (suc k) incoming ns fs = option_and_then (λ n. numbered k incoming (n ∷ ns) (drop 1 fs)) (number_of (first_field fs))

-- the fields read one behind the other
abbrev in_turn : List (List ℕ) → Option Request
in_turn fs = option_and_then (λ incoming. numbered 6 incoming [] (drop 1 fs)) (direction_of (first_field fs))

-- the numbers behind a direction, of what was tested of each field
abbrev numbers_in_turn : Bool → (e m o a l z : Bool) (de dm do' da dl dz : ℕ) → Bool → Option Request
numbers_in_turn incoming e m o a l z de dm do' da dl dz none =
    option_and_then (λ endpoint.
    option_and_then (λ size.
    option_and_then (λ own.
    option_and_then (λ address.
    option_and_then (λ length.
    option_and_then (λ flag.
    option_and_then (λ zlp. ended (asking incoming endpoint size own address length zlp) none)
    (flag_of flag))
    (cond z (Some dz) None))
    (cond l (Some dl) None))
    (cond a (Some da) None))
    (cond o (Some do') None))
    (cond m (Some dm) None))
    (cond e (Some de) None)

-- and the direction
abbrev turns : Bool → Bool → (e m o a l z : Bool) (de dm do' da dl dz : ℕ) → Bool → Option Request
turns i w e m o a l z de dm do' da dl dz none =
    option_and_then (λ incoming. numbers_in_turn incoming e m o a l z de dm do' da dl dz none) (cond i (Some true) (cond w (Some false) None))

abbrev passing_if : Bool → Bool → (e m o a l z : Bool) (de dm do' da dl dz : ℕ) → Bool → Option Request
passing_if directed i e m o a l z de dm do' da dl dz none =
    cond (((directed && (((((e && m) && o) && a) && l) && z)) && ltb (cond z dz 0) 2) && none) (Some (asking i de dm do' da dl (eqb dz 1))) None

abbrev passing : Bool → Bool → (e m o a l z : Bool) (de dm do' da dl dz : ℕ) → Bool → Option Request
passing i w = passing_if (i || w) i

set_by : (i : Bool) (de dm do' da dl dz : ℕ) (none t : Bool) →
    option_and_then (λ zlp. ended (asking i de dm do' da dl zlp) none) (cond t (Some (eqb dz 1)) None)
    ≡ cond (t && none) (Some (asking i de dm do' da dl (eqb dz 1))) None
set_by i de dm do' da dl dz none false = refl
set_by i de dm do' da dl dz none true = refl

numbers_turned : (i e m o a l z : Bool) (de dm do' da dl dz : ℕ) (none : Bool) →
    numbers_in_turn i e m o a l z de dm do' da dl dz none ≡ passing_if true i e m o a l z de dm do' da dl dz none
numbers_turned i false m o a l z de dm do' da dl dz none = refl
numbers_turned i true false o a l z de dm do' da dl dz none = refl
numbers_turned i true true false a l z de dm do' da dl dz none = refl
numbers_turned i true true true false l z de dm do' da dl dz none = refl
numbers_turned i true true true true false z de dm do' da dl dz none = refl
numbers_turned i true true true true true false de dm do' da dl dz none = refl
numbers_turned i true true true true true true de dm do' da dl dz none = set_by i de dm do' da dl dz none (ltb dz 2)

turned : (i w e m o a l z : Bool) (de dm do' da dl dz : ℕ) (none : Bool) →
    turns i w e m o a l z de dm do' da dl dz none ≡ passing i w e m o a l z de dm do' da dl dz none
turned false false e m o a l z de dm do' da dl dz none = refl
turned true w e m o a l z de dm do' da dl dz none = numbers_turned true e m o a l z de dm do' da dl dz none
turned false true e m o a l z de dm do' da dl dz none = numbers_turned false e m o a l z de dm do' da dl dz none

-- the tests in one sequence and in the other
shuffle : (w e m o a l z : Bool) (d : ℕ) →
    (((w && (((((e && m) && o) && a) && l) && z)) && ltb (cond z d 0) 2) && true)
    ≡ (w && ((e && (m && (o && (a && (l && (z && true)))))) && ltb d 2))
shuffle false e m o a l z d = refl
shuffle true false m o a l z d = refl
shuffle true true false o a l z d = refl
shuffle true true true false a l z d = refl
shuffle true true true true false l z d = refl
shuffle true true true true true false z d = refl
shuffle true true true true true true false d = refl
shuffle true true true true true true true d = and-true (ltb d 2)

-- a line is readable where its direction and numbers are, and no field follows
abbrev pub passes : List (List ℕ) → Bool
passes fs =
    (((sameb (get_or fs 0 []) «in» || sameb (get_or fs 0 []) out)
    && (((((numberb (get_or fs 1 []) && numberb (get_or fs 2 [])) && numberb (get_or fs 3 [])) && numberb (get_or fs 4 []))
    && numberb (get_or fs 5 [])) && numberb (get_or fs 6 [])))
    && ltb (value_of (get_or fs 6 [])) 2) && noneb (drop 7 fs)

no_seventh : numberb [] ≡ false
unfolding numberb
no_seventh = refl

pub passes_readable : (fs : List (List ℕ)) → passes fs ≡ readable fs
unfolding readable noneb
passes_readable [] = refl
passes_readable (w ∷ []) = simp (no_seventh, and-false)
passes_readable (w ∷ e ∷ []) = simp (no_seventh, and-false)
passes_readable (w ∷ e ∷ m ∷ []) = simp (no_seventh, and-false)
passes_readable (w ∷ e ∷ m ∷ o ∷ []) = simp (no_seventh, and-false)
passes_readable (w ∷ e ∷ m ∷ o ∷ a ∷ []) = simp (no_seventh, and-false)
passes_readable (w ∷ e ∷ m ∷ o ∷ a ∷ l ∷ []) = simp (no_seventh, and-false)
passes_readable (w ∷ e ∷ m ∷ o ∷ a ∷ l ∷ z ∷ []) =
    shuffle (sameb w «in» || sameb w out) (numberb e) (numberb m) (numberb o) (numberb a) (numberb l) (numberb z) (decimal z)
passes_readable (w ∷ e ∷ m ∷ o ∷ a ∷ l ∷ z ∷ x ∷ fs) =
    rw (ne_eqb (length (w ∷ e ∷ m ∷ o ∷ a ∷ l ∷ z ∷ x ∷ fs)) 7 (λ h. omega (arith, h))) (simp and-false)

placed : (fs : List (List ℕ)) → turns (sameb (get_or fs 0 []) «in») (sameb (get_or fs 0 []) out)
    (numberb (get_or fs 1 [])) (numberb (get_or fs 2 [])) (numberb (get_or fs 3 [])) (numberb (get_or fs 4 [])) (numberb (get_or fs 5 [])) (numberb (get_or fs 6 []))
    (decimal (get_or fs 1 [])) (decimal (get_or fs 2 [])) (decimal (get_or fs 3 [])) (decimal (get_or fs 4 [])) (decimal (get_or fs 5 [])) (decimal (get_or fs 6 []))
    (noneb (drop 7 fs))
    ≡ in_turn fs
unfolding numbered noneb
placed [] = refl
placed (w ∷ []) = refl
placed (w ∷ e ∷ []) = refl
placed (w ∷ e ∷ m ∷ []) = refl
placed (w ∷ e ∷ m ∷ o ∷ []) = refl
placed (w ∷ e ∷ m ∷ o ∷ a ∷ []) = refl
placed (w ∷ e ∷ m ∷ o ∷ a ∷ l ∷ []) = refl
placed (w ∷ e ∷ m ∷ o ∷ a ∷ l ∷ z ∷ fs) = refl

all_turned : (fs : List (List ℕ)) → passing (sameb (get_or fs 0 []) «in») (sameb (get_or fs 0 []) out)
    (numberb (get_or fs 1 [])) (numberb (get_or fs 2 [])) (numberb (get_or fs 3 [])) (numberb (get_or fs 4 [])) (numberb (get_or fs 5 [])) (numberb (get_or fs 6 []))
    (decimal (get_or fs 1 [])) (decimal (get_or fs 2 [])) (decimal (get_or fs 3 [])) (decimal (get_or fs 4 [])) (decimal (get_or fs 5 [])) (decimal (get_or fs 6 []))
    (noneb (drop 7 fs))
    ≡ in_turn fs
all_turned fs = sym (turned (sameb (get_or fs 0 []) «in») (sameb (get_or fs 0 []) out)
    (numberb (get_or fs 1 [])) (numberb (get_or fs 2 [])) (numberb (get_or fs 3 [])) (numberb (get_or fs 4 [])) (numberb (get_or fs 5 [])) (numberb (get_or fs 6 []))
    (decimal (get_or fs 1 [])) (decimal (get_or fs 2 [])) (decimal (get_or fs 3 [])) (decimal (get_or fs 4 [])) (decimal (get_or fs 5 [])) (decimal (get_or fs 6 []))
    (noneb (drop 7 fs))) ∙ placed fs

read_in_turn : (line : List ℕ) → read_line line ≡ in_turn (fields line)
unfolding read_line
read_in_turn line = rw (← passes_readable (fields line)) (all_turned (fields line))

-- what is left of a line decides, behind the numbers that were read
pub record Left (line : List ℕ) (k : ℕ) (incoming : Bool) (ns : List ℕ) (fs : List (List ℕ)) : Type 0 where
  pub is : read_line line ≡ numbered k incoming ns fs

-- the direction, and what is read behind it
module _ (line : List ℕ) {all : List (List ℕ)} (a : all ≡ fields line) where
  pub directed_on : {word : List ℕ} {left : List (List ℕ)} {incoming : Bool} → all ≡ word ∷ left → Some incoming ≡ direction_of word →
      Left line 6 incoming [] left
  directed_on w d = record { is = read_in_turn line ∙ rw (← a, w, ← d) }

  pub not_directed : {word : List ℕ} {left : List (List ℕ)} → all ≡ word ∷ left → None ≡ direction_of word → None ≡ read_line line
  not_directed w d = sym (read_in_turn line ∙ rw (← a, w, ← d))

  pub no_word : all ≡ [] → None ≡ read_line line
  no_word e = sym (read_in_turn line ∙ rw (← a, e))

-- a number, and what is read behind it
module _ (k : ℕ) {line : List ℕ} {incoming : Bool} {ns : List ℕ} {fs : List (List ℕ)} (l : Left line (suc k) incoming ns fs) where
  pub numbered_on : {left : List (List ℕ)} {n : ℕ} → Some n ≡ number_of (first_field fs) → left ≡ drop 1 fs → Left line k incoming (n ∷ ns) left
  unfolding numbered
  numbered_on h e = record { is = l.is ∙ rw (← h, ← e) }

  pub not_numbered : None ≡ number_of (first_field fs) → None ≡ read_line line
  unfolding numbered
  not_numbered h = sym (l.is ∙ rw (← h))

-- the flag, and the end
module _ {line : List ℕ} {incoming : Bool} {e m o a l z : ℕ} {fs : List (List ℕ)} (r : Left line 0 incoming (z ∷ l ∷ a ∷ o ∷ m ∷ e ∷ []) fs) where
  pub not_flagged : None ≡ flag_of z → None ≡ read_line line
  unfolding numbered
  not_flagged f = sym (r.is ∙ rw (← f))

  pub read_to_end : {set : Bool} → Some set ≡ flag_of z → noneb fs ≡ true →
      Some (asking incoming e m o a l set) ≡ read_line line
  unfolding numbered
  read_to_end f none = sym (r.is ∙ rw (← f, none))

  pub more_behind : {set : Bool} → Some set ≡ flag_of z → noneb fs ≡ false → None ≡ read_line line
  unfolding numbered
  more_behind f some = sym (r.is ∙ rw (← f, some))
