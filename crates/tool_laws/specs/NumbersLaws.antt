-- The numbers of a script's line by their places, and numbers held to a most.
-- Assumes nothing.
use Rattle.std.specs.Prelude.{ℕ, ◌+◌, ◌-◌, ◌≤◌, ◌<◌, Bool, true, false, cond, List, ◌≡◌, ltb, length, take, drop}
use Rattle.std.proofs.Common.{sym, ◌∙◌, arith, le-ltb, lt-ltb}
use Rattle.tool_lines.specs.Line.{tab, fields}
use Rattle.tool_lines.specs.Fields.{noneb}
use Rattle.tool_words.specs.declared.Meant.{Meant}
use Rattle.tool_words.specs.declared.Word.TheVariants.{Unfit}
use Rattle.tool_words.specs.Words.{meaning_of}
use Rattle.tool_scripts.specs.Script.{numbers_fit, held_to, read_call}
use Rattle.tool_scripts.specs.Numbers.{Left}
use Rattle.tool_scripts.specs.NumbersLaws.{all_left, left_past, left_unfit, left_more, left_full}
use Rattle.tool_laws.specs.Search.{seek}
use Rattle.tool_laws.specs.SearchLaws.{seek_le}
use Rattle.tool_laws.specs.Fields.{rest, NumberAt, ReadAt}
use Rattle.tool_laws.specs.FieldsLaws.{first_word, behind_line}

-- the word ends with the line or before
pub word_within : (line : List ℕ) (end : ℕ) → end ≡ seek line 0 tab → end ≤ length line
word_within line end e = omega (arith, e, seek_le line 0 tab (omega arith))

-- the fields behind the word
pub behind_word : (line : List ℕ) (end : ℕ) → end ≡ seek line 0 tab → rest line (end + 1) ≡ drop 1 (fields line)
behind_word line end e = rw (first_word line end e)

pub field_there : (line : List ℕ) (at : ℕ) → at ≤ length line → noneb (rest line at) ≡ false
field_there line at h = sym (behind_line line at) ∙ le-ltb (length line) at h

-- the fields from `at` on decide, after i numbers
abbrev pub LeftAt : List ℕ → ℕ → ℕ → ℕ → Type 0
LeftAt line most at i = Left (drop 1 (fields line)) most i (rest line at)

pub all_left_at : (line : List ℕ) (most at : ℕ) → rest line at ≡ drop 1 (fields line) → LeftAt line most at 0
all_left_at line most at e = rw e (all_left (drop 1 (fields line)) most)

module _ (line : List ℕ) (most at i : ℕ) (l : Left (drop 1 (fields line)) most i (rest line at)) where
  pub left_past_at : length line < at → true ≡ numbers_fit most (drop 1 (fields line))
  left_past_at h = left_past l (sym (behind_line line at) ∙ lt-ltb (length line) at h)

  pub left_unfit_at : (n : NumberAt) → at ≤ length line → ReadAt line at n → n.fits ≡ false → false ≡ numbers_fit most (drop 1 (fields line))
  left_unfit_at n h r u = left_unfit l (field_there line at h) (sym r.fits ∙ u)

  pub left_more_at : (n : NumberAt) → i < most → at ≤ length line → ReadAt line at n → n.fits ≡ true → Left (drop 1 (fields line)) most (i + 1) (rest line n.next)
  left_more_at n b h r u = left_more l b (field_there line at h) (sym r.fits ∙ u) r.behind

  pub left_full_at : most ≤ i → ltb (length line) at ≡ numbers_fit most (drop 1 (fields line))
  left_full_at h = behind_line line at ∙ left_full l h

-- the call of a line, from where its word ends
pub call_told_at : (line : List ℕ) (end : ℕ) (meant : Meant) (fit : Bool) → end ≡ seek line 0 tab → meant ≡ meaning_of (take (end - 0) line) →
    fit ≡ numbers_fit meant.most (drop 1 (fields line)) → cond fit meant.call Unfit ≡ read_call line
unfolding read_call
call_told_at line end meant fit e m f = rw (f, m, first_word line end e)

-- a number that was read, held to the most
pub held_at : (most v n : ℕ) → v ≡ n → most < v → (most ≤ most) × (most ≡ held_to most n)
held_at most v n e h = (omega arith, omega (arith, e, h))

pub held_within : (most v n : ℕ) → v ≡ n → v ≤ most → (v ≤ most) × (v ≡ held_to most n)
held_within most v n e h = (h, omega (arith, e, h))
