-- Nothing of what is read gets lost: bytes are the line, its line feed, and what comes behind.
-- Assumes nothing.
use Rattle.std.specs.Prelude.{ℕ, ◌+◌, ◌<◌, Bool, true, false, cond, ◌≡◌, refl, ltb, eqb, List, ◌∷◌, ◌++◌, length, take, drop, get_or, Some, None}
use Rattle.std.specs.List.{slice_range, position_or_len}
use Rattle.std.proofs.Math.Nat.{add-sub_cancel_left}
use Rattle.std.proofs.Common.{ap, sym, ◌∙◌, arith, eqb-true, ltb-true}
use Rattle.std.proofs.lemmas.List.{drop_more, get_or-drop, get_or-take, length-drop, length-take}
use Rattle.std.proofs.lemmas.List.Folds.{drop_split}
use Rattle.std.proofs.lemmas.List.Sums.{passes_at_first, fails_before_first}
use Rattle.tool_lines.specs.Line.{line_feed, line_end}
use Rattle.tool_reader.specs.Reader.{whole_line, behind_line}

-- a line is there exactly where a line feed follows
told : (bytes : List ℕ) (from : ℕ) (line : List ℕ) → Some line ≡ whole_line bytes from
    → (ltb (line_end bytes from) (length bytes) ≡ true) × (line ≡ slice_range bytes from (line_end bytes from))
told bytes from line = go (ltb (line_end bytes from) (length bytes))
  where
    go : (b : Bool) → Some line ≡ cond b (Some (slice_range bytes from (line_end bytes from))) None
        → (b ≡ true) × (line ≡ slice_range bytes from (line_end bytes from))
    go true e = (refl, cc)
    go false e = absurd (cc)

module _ (bytes : List ℕ) (from : ℕ) (h : line_end bytes from < length bytes) where
  within : position_or_len (λ (b : ℕ). eqb b line_feed) (drop from bytes) < length (drop from bytes)
  within = omega (arith, h, length-drop from bytes)

  fed : get_or bytes (line_end bytes from) 0 ≡ line_feed
  fed =
      let n = position_or_len (λ (b : ℕ). eqb b line_feed) (drop from bytes) in
      let p : eqb (get_or (drop from bytes) n 0) line_feed ≡ true = passes_at_first (λ (b : ℕ). eqb b line_feed) (drop from bytes) 0 within in
      eqb-true _ _ (rw (get_or-drop from bytes n 0) at p)

pub nothing_lost : (bytes : List ℕ) (from : ℕ) (line : List ℕ) → Some line ≡ whole_line bytes from
    → drop from bytes ≡ line ++ line_feed ∷ drop (behind_line bytes from) bytes
nothing_lost bytes from line e =
    let t = told bytes from line e in
    let h = ltb-true _ _ t.0 in
    let d : drop (line_end bytes from) bytes ≡ line_feed ∷ drop (line_end bytes from + 1) bytes =
    drop_more bytes (line_end bytes from) 0 h ∙ ap (λ (b : ℕ). b ∷ drop (line_end bytes from + 1) bytes) (fed bytes from h) in
    rw (t.0, t.1, sym d) (drop_split bytes from (line_end bytes from) (omega arith))

-- and no line has a line feed in it
pub one_line : (bytes : List ℕ) (from : ℕ) (line : List ℕ) → Some line ≡ whole_line bytes from
    → (k : ℕ) → k < length line → eqb (get_or line k 0) line_feed ≡ false
one_line bytes from line e k b =
    let t = told bytes from line e in
    let h = ltb-true _ _ t.0 in
    let n = position_or_len (λ (b : ℕ). eqb b line_feed) (drop from bytes) in
    let cut : line ≡ take n (drop from bytes) = t.1 ∙ ap (λ (w : ℕ). take w (drop from bytes)) (add-sub_cancel_left from n) in
    let c : k < n = omega (arith, rw cut at b, length-take n (drop from bytes)) in
    rw (cut, get_or-take n (drop from bytes) k 0 c) (fails_before_first (λ (b : ℕ). eqb b line_feed) (drop from bytes) k 0 c)
