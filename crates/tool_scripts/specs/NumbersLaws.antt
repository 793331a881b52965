-- The numbers of a script's line, one after the other.
-- Assumes nothing.
use Rattle.std.specs.Prelude.{ℕ, suc, ◌+◌, ◌-◌, ◌≤◌, ◌<◌, Bool, true, false, cond, Option, Some, None, List, [], ◌∷◌, ◌≡◌, refl, leb, length, not, get_or, drop, is_some, unwrap_or}
use Rattle.std.proofs.Common.{true≢false, ap, sym, ◌∙◌, arith, add-zero, drop-drop, get_or-drop}
use Rattle.std.proofs.lemmas.List.{drop_all, length-drop}
use Rattle.std.proofs.Math.Bool.{and-false}
use Rattle.std.proofs.Math.Dec.{leb-suc-suc, leb-suc-zero, leb-zero}
use Rattle.std.specs.Borrow.{Bor}
use Rattle.std.specs.Iterator.{Yields, SkipsThenYields, YieldsFirstRef}
use Rattle.tool_words.specs.declared.Meant.{Meant}
use Rattle.tool_words.specs.declared.Word.TheVariants.{Unfit}
use Rattle.tool_words.specs.Words.{meaning_of}
use Rattle.tool_lines.specs.Line.{fields, decimal, numberb}
use Rattle.tool_lines.specs.Digits.{value_of, number_of}
use Rattle.tool_lines.specs.Fields.{first_field, noneb}
use Rattle.tool_scripts.specs.Script.{number_at, numbers_fit, read_call}
use Rattle.tool_scripts.specs.Numbers.{Left}

-- a field's number, and 0 where it is none
pub number_or_0 : (field : List ℕ) → unwrap_or (number_of field) 0 ≡ value_of field
number_or_0 field = go (numberb field)
  where
    go : (t : Bool) → unwrap_or (cond t (Some (decimal field)) None) 0 ≡ cond t (decimal field) 0
    go true = refl
    go false = refl

-- number k of a line, behind those before it
pub number_found : (line : List ℕ) (k n : ℕ) (left : List (List ℕ)) (found : Option ℕ) → left ≡ drop (k + 1) (fields line) →
    found ≡ number_of (first_field left) → n ≡ unwrap_or found 0 → n ≡ number_at line k
number_found line k n left found l f e =
    let place : get_or (drop (k + 1) (fields line)) 0 [] ≡ get_or (fields line) (k + 1) []
    = rw (get_or-drop (k + 1) (fields line) 0 [], add-zero (k + 1)) in
    let field : first_field left ≡ get_or (fields line) (k + 1) [] = rw l place in
    e ∙ rw (f, number_or_0 (first_field left), field)

-- whether a field is a number
pub number_told : (field : List ℕ) (found : Option ℕ) (none : Bool) → found ≡ number_of field → is_some found ≡ not none → numberb field ≡ not none
number_told field found none e h = sym (go (numberb field)) ∙ rw e at h
  where
    go : (t : Bool) → is_some (cond t (Some (decimal field)) None) ≡ t
    go true = refl
    go false = refl

-- a field that was taken off
pub passed : (fs left : List (List ℕ)) (found : Option (Bor (List ℕ))) → YieldsFirstRef (λ (l : List (List ℕ)). l) fs found left → left ≡ drop 1 fs
passed fs left None y = rw (y.0, y.1)
passed fs left (Some f) y = rw y

pub passed_behind : (all left : List (List ℕ)) (k : ℕ) (fs : List (List ℕ)) → fs ≡ drop k all → left ≡ drop 1 fs → left ≡ drop (k + 1) all
passed_behind all left k fs e h = h ∙ rw (e, drop-drop 1 k all)

-- the fields that were taken off one after the other
each_passed : (passed : List (Bor (List ℕ))) (fs left : List (List ℕ)) → Yields (YieldsFirstRef (λ (l : List (List ℕ)). l)) fs passed left →
    left ≡ drop (length passed) fs
each_passed [] fs left y = sym y
each_passed (f ∷ passed) fs left y = each_passed passed y.0 left y.2 ∙ rw y.1

-- one more than k of them, or all where there are fewer
pub all_passed : (fs left : List (List ℕ)) (k : ℕ) (found : Option (Bor (List ℕ))) →
    SkipsThenYields (YieldsFirstRef (λ (l : List (List ℕ)). l)) fs k found left → left ≡ drop (k + 1) fs
all_passed fs left k None s =
    let none : drop (length s.0) fs ≡ [] = sym (each_passed s.0 fs s.1.0 s.1.1) ∙ s.1.2.0 in
    let few : length fs ≤ k + 1 = omega (arith, length-drop (length s.0) fs, ap length none, s.2) in
    rw (s.1.2.1, drop_all (k + 1) fs few)
all_passed fs left k (Some f) s =
    passed_behind fs left k s.1.0 (rw s.2 at (each_passed s.0 fs s.1.0 s.1.1)) (passed s.1.0 left (Some f) s.1.2)

-- the word of a line, and the call that it asks for
pub word_told : (fs left : List (List ℕ)) (found : Option (Bor (List ℕ))) (word none : Bor (List ℕ)) →
    YieldsFirstRef (λ (l : List (List ℕ)). l) fs found left → word ≡ unwrap_or found none → none.now ≡ [] → word.now ≡ get_or fs 0 []
word_told fs left None word none y e h = rw (e, y.0) h
word_told fs left (Some f) word none y e h = rw (e, y)

pub call_told : (line word : List ℕ) (left : List (List ℕ)) (meant : Meant) (fit : Bool) → word ≡ get_or (fields line) 0 [] → left ≡ drop 1 (fields line) →
    meant ≡ meaning_of word → fit ≡ numbers_fit meant.most left → cond fit meant.call Unfit ≡ read_call line
unfolding read_call
call_told line word left meant fit w l m f = rw (f, m, w, l)

none_fit : (most : ℕ) (fs : List (List ℕ)) → noneb fs ≡ true → true ≡ numbers_fit most fs
unfolding numbers_fit noneb
none_fit most [] h = rw (leb-zero most)
none_fit most (f ∷ fs) h = absurd (true≢false (sym h))

unfit : (most : ℕ) (fs : List (List ℕ)) → noneb fs ≡ false → numberb (first_field fs) ≡ false → false ≡ numbers_fit most fs
unfolding numbers_fit noneb
unfit most [] h n = absurd (true≢false h)
unfit most (f ∷ fs) h n = rw (n, and-false (leb (suc (length fs)) most))

one_fit : (most : ℕ) (fs : List (List ℕ)) → noneb fs ≡ false → numberb (first_field fs) ≡ true → numbers_fit (suc most) fs ≡ numbers_fit most (drop 1 fs)
unfolding numbers_fit noneb
one_fit most [] h n = absurd (true≢false h)
one_fit most (f ∷ fs) h n = rw (n, leb-suc-suc (length fs) most)

no_more : (fs : List (List ℕ)) → noneb fs ≡ numbers_fit 0 fs
unfolding numbers_fit noneb
no_more [] = refl
no_more (f ∷ fs) = rw (leb-suc-zero (length fs))

pub all_left : (all : List (List ℕ)) (most : ℕ) → Left all most 0 all
all_left all most =
    let none : most - 0 ≡ most = omega arith in
    record { decides = rw none }

module _ {all left : List (List ℕ)} {most i : ℕ} (l : Left all most i left) where
  pub left_past : noneb left ≡ true → true ≡ numbers_fit most all
  left_past h = none_fit (most - i) left h ∙ sym l.decides

  pub left_unfit : noneb left ≡ false → numberb (first_field left) ≡ false → false ≡ numbers_fit most all
  left_unfit h n = unfit (most - i) left h n ∙ sym l.decides

  pub left_more : {next : List (List ℕ)} → i < most → noneb left ≡ false → numberb (first_field left) ≡ true → next ≡ drop 1 left → Left all most (i + 1) next
  left_more b h n d =
      let e : most - i ≡ suc (most - (i + 1)) = omega arith in
      record { decides = l.decides ∙ rw (e, d) (one_fit (most - (i + 1)) left h n) }

  pub left_full : most ≤ i → noneb left ≡ numbers_fit most all
  left_full h =
      let e : most - i ≡ 0 = omega arith in
      no_more left ∙ rw⁻¹ e (sym l.decides)
