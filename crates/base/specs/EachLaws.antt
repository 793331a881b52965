-- Laws of every, count and of lists that are changed entry by entry.
-- Assumes nothing.
use Rattle.std.specs.List.{list_all, enumerate_from}
use Rattle.std.specs.Prelude.{ℕ, zero, suc, ◌+◌, ◌<◌, ◌≤◌, Bool, true, false, ◌&&◌, ◌||◌, not, List, [], ◌∷◌, ◌++◌, map, ◌≡◌, refl, eqb, ltb, length, get_or, set}
use Rattle.std.proofs.Math.Bool.{and_assoc, and-true}
use Rattle.std.proofs.Common.{ap, sym, ◌∙◌, add-one, add-zero, zero-add, arith, eqb-true, ltb-true, ltb-false}
use Rattle.std.proofs.lemmas.Bool.{eqb-false}
use Rattle.base.specs.Bits.{bit}
use Rattle.std.proofs.Math.ListN.{get_or-eq_default}
use Rattle.base.specs.Each.{every, count, all_true, change_from, change}

pub every_none : (p : ℕ → Bool) → every p 0 ≡ true
unfolding every
every_none p = refl

-- one number more
pub every_step : (p : ℕ → Bool) (n : ℕ) (so_far this : Bool) → so_far ≡ every p n → this ≡ p n → (so_far && this) ≡ every p (n + 1)
unfolding every
every_step p n so_far this h e = rw (add-one n, h, e)

pub count_none : (p : ℕ → Bool) → count p 0 ≡ 0
unfolding count
count_none p = refl

pub count_step : (p : ℕ → Bool) (n so_far : ℕ) (this : Bool) → so_far ≡ count p n → this ≡ p n → so_far + bit this ≡ count p (n + 1)
unfolding count
count_step p n so_far this h e = rw (add-one n, h, e)

pub all_append : (bs cs : List Bool) → all_true (bs ++ cs) ≡ (all_true bs && all_true cs)
all_append [] cs = refl
all_append (b ∷ bs) cs = ap (λ (t : Bool). b && t) (all_append bs cs) ∙ sym (and_assoc b (all_true bs) (all_true cs))

and_swap : (a b c d : Bool) → ((a && b) && (c && d)) ≡ ((a && c) && (b && d))
and_swap true true c d = refl
and_swap true false true d = refl
and_swap true false false d = refl
and_swap false b c d = refl

every_both : (p q : ℕ → Bool) (n : ℕ) → every (λ i. p i && q i) n ≡ (every p n && every q n)
unfolding every
every_both p q zero = refl
every_both p q (suc n) = rw (every_both p q n) (and_swap (every p n) (every q n) (p n) (q n))

every_true : (n : ℕ) → every (λ i. true) n ≡ true
unfolding every
every_true zero = refl
every_true (suc n) = rw (every_true n)

-- each number meets all clauses where each clause is met by every number
pub every_all : (cs : List (ℕ → Bool)) (n : ℕ) → every (λ i. all_true (map (λ (c : ℕ → Bool). c i) cs)) n ≡ all_true (map (λ (c : ℕ → Bool). every c n) cs)
every_all [] n = every_true n
every_all (c ∷ cs) n = every_both c (λ i. all_true (map (λ (d : ℕ → Bool). d i) cs)) n ∙ ap (λ b. every c n && b) (every_all cs n)

pub true_not_false : true ≡ false → ⊥
true_not_false h = omega (arith, ap bit h)

pub and_left : (a b : Bool) → (a && b) ≡ true → a ≡ true
and_left true b h = refl
and_left false b h = h

pub and_right : (a b : Bool) → (a && b) ≡ true → b ≡ true
and_right true b h = h
and_right false b h = absurd (true_not_false (sym h))

pub implied : (a b : Bool) → a ≡ true → (not a || b) ≡ true → b ≡ true
implied true b e h = h
implied false b e h = absurd (true_not_false (sym e))

pub and_both : (a b : Bool) → a ≡ true → b ≡ true → (a && b) ≡ true
and_both a b h k = rw (h, k)

-- what is true of every number is true of each
pub every_at : (p : ℕ → Bool) (n i : ℕ) → every p n ≡ true → i < n → p i ≡ true
unfolding every
every_at p zero i h k = absurd (omega (arith, k))
every_at p (suc n) i h k = go (eqb i n) refl (λ (j : i < n). every_at p n i (and_left (every p n) (p n) h) j)
  where
    go : (b : Bool) → eqb i n ≡ b → (i < n → p i ≡ true) → p i ≡ true
    go true e below = rw (eqb-true i n e) (and_right (every p n) (p n) h)
    go false e below = below (omega (arith, k, eqb-false i n e))

pub every_make : (p : ℕ → Bool) (n : ℕ) → ((i : ℕ) → i < n → p i ≡ true) → every p n ≡ true
unfolding every
every_make p zero h = refl
every_make p (suc n) h = and_both (every p n) (p n) (every_make p n (λ i k. h i (omega (arith, k)))) (h n (omega arith))

pub change_none : {A : Type 0} (f : ℕ → A → A) (l : List A) → change f 0 l ≡ l
unfolding change_from
change_none f l = refl

set_next : {A : Type 0} (k : ℕ) (f : ℕ → A → A) (n : ℕ) (l : List A) (d : A) → set (change_from k f n l) n (f (k + n) (get_or l n d)) ≡ change_from k f (suc n) l
unfolding change_from
set_next k f zero [] d = refl
set_next k f zero (x ∷ l) d = rw (add-zero k)
set_next k f (suc n) [] d = refl
set_next k f (suc n) (x ∷ l) d =
    let shift : k + suc n ≡ suc k + n = omega arith in
    rw shift (ap (λ t. f k x ∷ t) (set_next (suc k) f n l d))

-- changing the next entry
pub change_next : {A : Type 0} (f : ℕ → A → A) (n : ℕ) (l : List A) (d : A) → set (change f n l) n (f n (get_or l n d)) ≡ change f (n + 1) l
change_next f n l d = rw (add-one n) (rw (zero-add n) at (set_next 0 f n l d))

change_from_not_yet : {A : Type 0} (k : ℕ) (f : ℕ → A → A) (n : ℕ) (l : List A) (d : A) → get_or (change_from k f n l) n d ≡ get_or l n d
unfolding change_from
change_from_not_yet k f zero l d = refl
change_from_not_yet k f (suc n) [] d = refl
change_from_not_yet k f (suc n) (x ∷ l) d = change_from_not_yet (suc k) f n l d

-- which is as it was until then
pub change_not_yet : {A : Type 0} (f : ℕ → A → A) (n : ℕ) (l : List A) (d : A) → get_or (change f n l) n d ≡ get_or l n d
change_not_yet f n l d = change_from_not_yet 0 f n l d

change_from_at : {A : Type 0} (k : ℕ) (f : ℕ → A → A) (n : ℕ) (l : List A) (i : ℕ) (d : A) → i < n → i < length l → get_or (change_from k f n l) i d ≡ f (k + i) (get_or l i d)
unfolding change_from
change_from_at k f zero l i d h b = absurd (omega (arith, h))
change_from_at k f (suc n) [] i d h b = absurd (omega (arith, b))
change_from_at k f (suc n) (x ∷ l) zero d h b = rw (add-zero k)
change_from_at k f (suc n) (x ∷ l) (suc i) d h b =
    let shift : k + suc i ≡ suc k + i = omega arith in
    rw shift (change_from_at (suc k) f n l i d (omega (arith, h)) (omega (arith, b)))

-- an entry after its change
pub change_at : {A : Type 0} (f : ℕ → A → A) (n : ℕ) (l : List A) (i : ℕ) (d : A) → i < n → i < length l → get_or (change f n l) i d ≡ f i (get_or l i d)
change_at f n l i d h b = rw (zero-add i) at (change_from_at 0 f n l i d h b)

change_from_beyond : {A : Type 0} (k : ℕ) (f : ℕ → A → A) (n : ℕ) (l : List A) (i : ℕ) (d : A) → n ≤ i → get_or (change_from k f n l) i d ≡ get_or l i d
unfolding change_from
change_from_beyond k f zero l i d h = refl
change_from_beyond k f (suc n) [] i d h = refl
change_from_beyond k f (suc n) (x ∷ l) zero d h = absurd (omega (arith, h))
change_from_beyond k f (suc n) (x ∷ l) (suc i) d h = change_from_beyond (suc k) f n l i d (omega (arith, h))

-- entries behind the changed ones are as they were
pub change_beyond : {A : Type 0} (f : ℕ → A → A) (n : ℕ) (l : List A) (i : ℕ) (d : A) → n ≤ i → get_or (change f n l) i d ≡ get_or l i d
change_beyond f n l i d h = change_from_beyond 0 f n l i d h

-- two ways to change that agree from number k on
pub change_alike : {A : Type 0} (k : ℕ) (f g : ℕ → A → A) → ((i : ℕ) (x : A) → k ≤ i → f i x ≡ g i x) → (n : ℕ) (l : List A) → change_from k f n l ≡ change_from k g n l
unfolding change_from
change_alike k f g h zero l = refl
change_alike k f g h (suc n) [] = refl
change_alike k f g h (suc n) (x ∷ l) = rw (h k x (omega arith), change_alike (suc k) f g (λ i y b. h i y (omega (arith, b))) n l)

pub change_length : {A : Type 0} (k : ℕ) (f : ℕ → A → A) (n : ℕ) (l : List A) → length (change_from k f n l) ≡ length l
unfolding change_from
change_length k f zero l = refl
change_length k f (suc n) [] = refl
change_length k f (suc n) (x ∷ l) = ap suc (change_length (suc k) f n l)

pub length_mapped : {A B : Type 0} (f : A → B) (l : List A) (n : ℕ) → length (map f l) ≡ n → length l ≡ n
length_mapped f [] n h = h
length_mapped f (x ∷ l) zero h = absurd (omega (arith, h))
length_mapped f (x ∷ l) (suc n) h = ap suc (length_mapped f l n (omega (arith, h)))

-- a list has nothing past its end that could be stored to
pub set_past : {A : Type 0} (l : List A) (i : ℕ) (x : A) → length l ≤ i → set l i x ≡ l
set_past [] i x h = refl
set_past (y ∷ l) zero x h = absurd (omega (arith, h))
set_past (y ∷ l) (suc i) x h = ap (λ t. y ∷ t) (set_past l i x (omega (arith, h)))

-- an entry of a list whose first n entries were changed; past its end there is none to change
pub changed_at : {A : Type 0} (P : A → Type 0) (f : ℕ → A → A) (n : ℕ) (l : List A) (i : ℕ) (d : A) → i < n → P (f i (get_or l i d)) → (get_or l i d ≡ d → P d) → P (get_or (change f n l) i d)
changed_at P f n l i d h there past = go (ltb i (length l)) refl
  where
    go : (b : Bool) → ltb i (length l) ≡ b → P (get_or (change f n l) i d)
    go true e = rw (change_at f n l i d h (ltb-true _ _ e)) there
    go false e =
        let b : length l ≤ i = ltb-false _ _ e in
        let c : length (change f n l) ≤ i = rw (change_length 0 f n l) b in
        rw (get_or-eq_default (change f n l) d c) (past (get_or-eq_default l d b))

-- an entry stored where it came from changes nothing
pub set_own : {A : Type 0} (l : List A) (i : ℕ) (d : A) → set l i (get_or l i d) ≡ l
set_own [] i d = refl
set_own (x ∷ l) zero d = refl
set_own (x ∷ l) (suc i) d = ap (λ t. x ∷ t) (set_own l i d)

every_same : (p q : ℕ → Bool) (n : ℕ) → ((i : ℕ) → p i ≡ q i) → every p n ≡ every q n
unfolding every
every_same p q zero h = refl
every_same p q (suc n) h = rw (every_same p q n h, h n)

every_first : (p : ℕ → Bool) (n : ℕ) → every p (suc n) ≡ (p 0 && every (λ i. p (suc i)) n)
unfolding every
every_first p zero = sym (and-true (p 0))
every_first p (suc n) = rw (every_first p n) (and_assoc (p 0) (every (λ i. p (suc i)) n) (p (suc n)))

-- the entries of a list with their numbers, from k on
every_entry : {A : Type 0} (p : ℕ → A → Bool) (d : A) (l : List A) (k : ℕ) → list_all (λ (e : ℕ × A). p e.0 e.1) (enumerate_from k l) ≡ every (λ i. p (k + i) (get_or l i d)) (length l)
unfolding every
every_entry p d [] k = refl
every_entry {A} p d (x ∷ l) k =
    ap (λ (b : Bool). p k x && b) (every_entry p d l (k + 1) ∙ every_same _ _ (length l) (λ i. ap (λ (j : ℕ). p j (get_or l i d)) (omega arith)))
    ∙ ap (λ (j : ℕ). p j x && every (λ i. p (k + suc i) (get_or l i d)) (length l)) (sym (add-zero k))
    ∙ sym (every_first (λ i. p (k + i) (get_or (x ∷ l) i d)) (length l))

-- all entries of a list are so, each with its number
pub every_listed : {A : Type 0} (p : ℕ → A → Bool) (d : A) (l : List A) (n : ℕ) → length l ≡ n → list_all (λ (e : ℕ × A). p e.0 e.1) (enumerate_from 0 l) ≡ every (λ i. p i (get_or l i d)) n
every_listed p d l n h = every_entry p d l 0 ∙ every_same _ _ (length l) (λ i. ap (λ (j : ℕ). p j (get_or l i d)) (zero-add i)) ∙ ap (every (λ i. p i (get_or l i d))) h
