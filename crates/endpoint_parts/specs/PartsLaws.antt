-- Parts: how long they are, and what the code's ends come to.
-- Assumes nothing.
use Rattle.std.specs.Prelude.{ℕ, ◌+◌, ◌-◌, ◌≤◌, ◌<◌, min, Bool, true, false, List, ◌++◌, ◌≡◌, refl, leb, length, take, drop}
use Rattle.std.proofs.Common.{append-nil, sym, ◌∙◌, leb-true, leb-false, arith, length-take, length-drop, drop_of_length-le, take_all, drop-drop}
use Rattle.std.proofs.Math.Seq.{take-length}
use Rattle.endpoint_parts.specs.Parts.{part, put}

-- either of two numbers is the lesser
by_order : {P : Type 0} (a b : ℕ) → (a ≤ b → P) → (b < a → P) → P
by_order {P} a b f g = go (leb a b) refl
  where
    go : (t : Bool) → leb a b ≡ t → P
    go true e = f (leb-true a b e)
    go false e = g (leb-false a b e)

pub part_length : (l : List ℕ) (from n : ℕ) → length (part l from n) ≡ min n (length l - from)
part_length l from n = rw (length-take n (drop from l), length-drop from l)

pub part_whole : (l : List ℕ) (from n : ℕ) → from + n ≤ length l → length (part l from n) ≡ n
part_whole l from n h = part_length l from n ∙ omega arith

-- more than there is, is what there is
take_held : (l : List ℕ) (n : ℕ) → take (min n (length l)) l ≡ take n l
take_held l n =
    by_order n (length l)
    (λ h. let e : min n (length l) ≡ n = omega arith in rw e)
    (λ h. let e : min n (length l) ≡ length l = omega arith in rw (e, take-length l) (sym (take_all n l (omega arith))))

drop_held : (l : List ℕ) (from : ℕ) → drop (min from (length l)) l ≡ drop from l
drop_held l from =
    by_order from (length l)
    (λ h. let e : min from (length l) ≡ from = omega arith in rw e)
    (λ h. let e : min from (length l) ≡ length l = omega arith in rw e (drop_of_length-le l {i = length l} (omega arith) ∙ sym (drop_of_length-le l {i = from} (omega arith))))

-- the ends that the code holds to the bytes
pub part_held : (l : List ℕ) (from n start count : ℕ) → start ≡ min from (length l) → count ≡ min n (length l - start) → take count (drop start l) ≡ part l from n
part_held l from n start count s c =
    let long : length l - start ≡ length (drop from l) = sym (length-drop from l ∙ omega (arith, s)) in
    rw (c, long, s, drop_held l from) (take_held (drop from l) n)

-- as many bytes as there is room for, from the start that is held
pub room_held : (len size at start count : ℕ) → start ≡ min at size → count ≡ min len (size - start) → count ≡ min len (size - at)
room_held len size at start count s c = let same : size - start ≡ size - at = omega (arith, s) in c ∙ rw same

-- what a copy of a part leaves, stored back in the place that it was lent from
pub put_held : (l p lent : List ℕ) (at start end : ℕ) → start ≡ min at (length l) → end ≡ start + length p → length p ≤ length l - start
    → lent ≡ take (length p) p ++ drop (length p) (take (end - start) (drop start l))
    → take start l ++ (lent ++ drop (end - start) (drop start l)) ≡ put l at p
put_held l p lent at start end s e fits q =
    let n : end - start ≡ length p = omega arith in
    let whole : length (take (length p) (drop start l)) ≡ length p = length-take (length p) (drop start l) ∙ rw (length-drop start l) (omega arith) in
    let same : lent ≡ p = q ∙ rw (n, take-length p, drop_of_length-le (take (length p) (drop start l)) {i = length p} (omega (arith, whole)), append-nil p) in
    rw (same, n)
    (by_order at (length l)
    (λ h. let here : start ≡ at = omega arith in rw (here, drop-drop (length p) at l))
    (λ h.
    let none : length p ≡ 0 = omega arith in
    let end : start ≡ length l = omega arith in
    rw (end, drop-drop (length p) (length l) l, drop_of_length-le l {i = length l + length p} (omega arith), drop_of_length-le l {i = at + length p} (omega arith), take-length l, take_all at l (omega arith))))
